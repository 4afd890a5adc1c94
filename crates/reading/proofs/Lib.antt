-- Laws behind the proofs. Nothing here needs to be believed.
pub mod Seeking
pub mod OneAtom
pub mod Assembled
pub mod SoundArrays
