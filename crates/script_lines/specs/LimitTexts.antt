-- What a limit counts, in words.
use Rattle.std.specs.Prelude.{ℕ, List, codes}
use Rattle.script_lines.specs.declared.refusal.Which.{Which}
use Rattle.script_lines.specs.declared.refusal.Which.TheVariants.{Bytes, Lines, Sessions}

abbrev pub which_text : Which → List ℕ
which_text Bytes = codes "bytes"
which_text Lines = codes "lines"
which_text Sessions = codes "sessions"
