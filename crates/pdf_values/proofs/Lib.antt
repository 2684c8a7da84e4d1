mod Numbers
mod Rests
mod TokensRead
