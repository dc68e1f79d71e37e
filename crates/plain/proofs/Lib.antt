mod FirstRefusal
mod Texts
