-- What a byte may be outside quotes.
use Rattle.std.specs.Prelude.{ℕ, ◌==◌, ◌||◌, if◌then◌else◌, nat_le, codes, Bool}
use Rattle.std.specs.Char.{is_ascii_alphanumeric}
use Rattle.std.specs.List.{list_any}
use Rattle.grant_lex.specs.declared.class.Class.{Class}
use Rattle.grant_lex.specs.declared.class.Class.TheVariants.{Blank, Word, Mark, Quote, Backquote, Other}

-- a space or a tab
abbrev pub is_blank : ℕ → Bool
is_blank b = b == 32 || b == 9

-- a letter, a digit, `_`, `$` or a byte past ASCII
abbrev pub is_word_byte : ℕ → Bool
is_word_byte b = is_ascii_alphanumeric b || b == 95 || b == 36 || nat_le 0x80 b

-- in this order: the blanks; what words have; the marks; both quotes; the backquote
abbrev pub class_of : ℕ → Class
class_of b =
    if is_blank b then Blank
    else (if is_word_byte b then Word
    else (if list_any (λ mark. b == mark) (codes "@,.()*=;") then Mark
    else (if b == 39 || b == 34 then Quote
    else (if b == 96 then Backquote
    else Other))))

-- a quote of strings, or a backquote
abbrev pub is_quote : ℕ → Bool
is_quote b = b == 39 || b == 34 || b == 96
