mod Refusing
mod Working
mod Ended
mod Replayed
