-- The flags of fields and methods that are asked (JVMS tables 4.5-A and 4.6-A).
use Rattle.std.specs.Prelude.{◌≡◌, bit_and}
use Rattle.jv_types.specs.declared.access.Access.{Access}

abbrev pub IsPublic : Access → Type 0
IsPublic access = bit_and access.0 1 ≡ 1

abbrev pub IsPrivate : Access → Type 0
IsPrivate access = bit_and access.0 2 ≡ 2

abbrev pub IsStatic : Access → Type 0
IsStatic access = bit_and access.0 8 ≡ 8

abbrev pub IsNative : Access → Type 0
IsNative access = bit_and access.0 0x100 ≡ 0x100

abbrev pub IsAbstract : Access → Type 0
IsAbstract access = bit_and access.0 0x400 ≡ 0x400
