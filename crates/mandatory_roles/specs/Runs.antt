-- Fronts of a text whose bytes are all of one sort.
use Rattle.std.specs.Prelude.{ℕ, Bool, not, ◌==◌, ◌||◌, if◌then◌else◌, List, [], ◌∷◌}
use Rattle.grant_lex.specs.Class.{is_blank, is_word_byte}
use Rattle.mandatory_roles.specs.declared.runs.Run.{Run}
use Rattle.mandatory_roles.specs.declared.runs.Run.TheVariants.{Blanks, Word, Host}

-- any byte but a comma and the blanks
abbrev pub is_host_byte : ℕ → Bool
is_host_byte b = not (b == 44 || is_blank b)

abbrev pub has : Run → ℕ → Bool
has Blanks = is_blank
has Word = is_word_byte
has Host = is_host_byte

-- the longest front of such bytes
abbrev pub run_of : (ℕ → Bool) → List ℕ → List ℕ
run_of p [] = []
run_of p (b ∷ bs) = if p b then b ∷ run_of p bs else []

-- what follows it
abbrev pub past_run : (ℕ → Bool) → List ℕ → List ℕ
past_run p [] = []
past_run p (b ∷ bs) = if p b then past_run p bs else b ∷ bs

abbrev pub past_blanks : List ℕ → List ℕ
past_blanks = past_run is_blank
