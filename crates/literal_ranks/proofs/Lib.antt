mod Finding
mod LiteralLaws
mod SplitLaws
