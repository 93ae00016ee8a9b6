-- What bounds a text.
use Rattle.std.specs.Prelude.{ℕ}

-- the most bytes of a text that is read or written whole: a file, a command's input, an answer
abbrev pub text_limit : ℕ
text_limit = 67108864
