-- The first role of a list, as it is written.
use Rattle.std.specs.Prelude.{◌≡◌, ℕ, Bool, true, false, ◌==◌, ◌||◌, if◌then◌else◌, List, [], ◌∷◌, Option, Some, None, option_map, option_and_then, codes, refl}
use Rattle.grant_lex.specs.Reserved.{is_reserved, reserved_words}
use Rattle.grant_lex.specs.Class.{is_word_byte}
use Rattle.mandatory_roles.specs.Runs.{is_host_byte, past_blanks, past_run, run_of}

-- a text in two parts
pub record Cut : Type 0 where
  pub front : List ℕ
  pub rest : List ℕ

-- the name and the host of a role, both as written, and what follows them and the blanks behind them
pub record Written : Type 0 where
  pub name : List ℕ
  pub host : List ℕ
  pub rest : List ℕ

abbrev pub is_empty : List ℕ → Bool
is_empty [] = true
is_empty (b ∷ bs) = false

abbrev pub begins_with_mark : ℕ → List ℕ → Bool
begins_with_mark mark [] = false
begins_with_mark mark (b ∷ bs) = b == mark

-- what follows the mark, where the text begins with it
abbrev pub past_mark : ℕ → List ℕ → Option (List ℕ)
past_mark mark [] = None
past_mark mark (b ∷ bs) = if b == mark then Some bs else None

-- the same cut with this byte before
abbrev pub byte_before : ℕ → Option Cut → Option Cut
byte_before b = option_map (λ cut. record { front = b ∷ cut.front; rest = cut.rest })

-- up to and with the first backquote, of code 96, that is not doubled
unfoldable pub closed_at : List ℕ → Option Cut
closed_at [] = None
closed_at (b ∷ []) = if b == 96 then Some (record { front = b ∷ []; rest = [] }) else None
closed_at (b ∷ c ∷ bs) =
    if b == 96 then (if c == 96 then byte_before b (byte_before c (closed_at bs)) else Some (record { front = b ∷ []; rest = c ∷ bs }))
    else byte_before b (closed_at (c ∷ bs))

-- what stands between backquotes, with them
abbrev pub quoted_at : List ℕ → Option Cut
quoted_at [] = None
quoted_at (b ∷ bs) = byte_before b (closed_at bs)

-- a word that is not reserved
abbrev pub word_at : List ℕ → Option Cut
word_at text =
    if is_empty (run_of is_word_byte text) || is_reserved (run_of is_word_byte text) then None
    else Some (record { front = run_of is_word_byte text; rest = past_run is_word_byte text })

abbrev pub name_at : List ℕ → Option Cut
name_at text = if begins_with_mark 96 text then quoted_at text else word_at text

-- all text up to a comma or a blank, where it does not begin with a quote of strings
abbrev pub plain_host_at : List ℕ → Option Cut
plain_host_at text =
    if begins_with_mark 39 text || begins_with_mark 34 text || is_empty (run_of is_host_byte text) then None
    else Some (record { front = run_of is_host_byte text; rest = past_run is_host_byte text })

abbrev pub host_at : List ℕ → Option Cut
host_at text = if begins_with_mark 96 text then quoted_at text else plain_host_at text

-- the name with the host that stands behind its `@`
abbrev pub with_host : List ℕ → Option Cut → Option Written
with_host name = option_map (λ cut. record { name = name; host = cut.front; rest = past_blanks cut.rest })

-- where no `@` stands, of code 64, the host is as if `%` were written
abbrev pub host_behind : List ℕ → List ℕ → Option (List ℕ) → Option Written
host_behind name rest None = Some (record { name = name; host = codes "%"; rest = rest })
host_behind name rest (Some after) = with_host name (host_at (past_blanks after))

abbrev pub past_name : Cut → Option Written
past_name cut = host_behind cut.front (past_blanks cut.rest) (past_mark 64 (past_blanks cut.rest))

unfoldable pub written_at : List ℕ → Option Written
written_at text = option_and_then past_name (name_at (past_blanks text))

example-written : written_at (codes " r3 @ h1.example.net ,r4") ≡ Some (record { name = codes "r3"; host = codes "h1.example.net"; rest = codes ",r4" })
unfolding written_at reserved_words
example-written = refl

example-quoted : written_at (codes "`a``,b`\t") ≡ Some (record { name = codes "`a``,b`"; host = codes "%"; rest = [] })
unfolding written_at closed_at
example-quoted = refl
