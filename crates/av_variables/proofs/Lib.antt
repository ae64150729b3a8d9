mod Arriving
mod Heading
mod Joining
mod Pairing
