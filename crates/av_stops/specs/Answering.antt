-- Which answers fit what comes first, as defined beside the answers.
pub use Rattle.av_program.specs.Answering.{IsLimit, Fits}
