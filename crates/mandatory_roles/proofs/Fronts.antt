-- Fronts of texts, by their lengths, and where a text may be cut behind them.
use Rattle.std.proofs.Common.{◌≡◌, ℕ, zero, suc, ◌+◌, ◌<◌, ◌≤◌, Bool, true, false, cond, List, [], ◌∷◌, length, get_or, take, drop, refl, ap, ◌∙◌, arith, IsUtf8, IsCharBoundary, add-one, one-add}
use Rattle.std.specs.List.{prefix_len}
use Rattle.std.proofs.lemmas.Bool.Decides.{nat_tests}
use Rattle.std.proofs.lemmas.List.Sums.{prefix_len-le-length, prefix_len_passes, prefix_len_stops}
use Rattle.std.proofs.lemmas.Str.{IsCharBoundary-after_ascii, IsCharBoundary-start}
use Rattle.grant_lex.specs.Class.{is_blank, is_word_byte}
use Rattle.mandatory_roles.specs.Runs.{has, is_host_byte, past_run, run_of}
use Rattle.mandatory_roles.specs.declared.runs.Run.{Run}
use Rattle.mandatory_roles.specs.declared.runs.Run.TheVariants.{Blanks, Word, Host}

pub run_is_front : (p : ℕ → Bool) (xs : List ℕ) → take (prefix_len p xs) xs ≡ run_of p xs
run_is_front p [] = refl
run_is_front p (x ∷ xs) =
    elim (p x) as (λ t. take (cond t (1 + prefix_len p xs) 0) (x ∷ xs) ≡ cond t (x ∷ run_of p xs) []) [
      | true ↦ rw one-add (ap (λ l. x ∷ l) (run_is_front p xs))
      | false ↦ refl
    ]

pub rest_is_past : (p : ℕ → Bool) (xs : List ℕ) → drop (prefix_len p xs) xs ≡ past_run p xs
rest_is_past p [] = refl
rest_is_past p (x ∷ xs) =
    elim (p x) as (λ t. drop (cond t (1 + prefix_len p xs) 0) (x ∷ xs) ≡ cond t (past_run p xs) (x ∷ xs)) [
      | true ↦ rw one-add (rest_is_past p xs)
      | false ↦ refl
    ]

blank_ascii : (b : ℕ) → is_blank b ≡ true → b < 128
blank_ascii b e = grind (arith, nat_tests)

word_stop_ascii : (b : ℕ) → is_word_byte b ≡ false → b < 128
word_stop_ascii b e = grind (arith, nat_tests)

host_stop_ascii : (b : ℕ) → is_host_byte b ≡ false → b < 128
host_stop_ascii b e = grind (arith, nat_tests)

behind_ascii : (text : List ℕ) (n : ℕ) → IsUtf8 text → n ≤ length text → ((k : ℕ) → k < n → get_or text k 0 < 128) → IsCharBoundary text n
behind_ascii text zero utf8 within each = IsCharBoundary-start text utf8
behind_ascii text (suc n) utf8 within each = rw (← add-one) (IsCharBoundary-after_ascii text n utf8 (omega arith) (each n (omega arith)))

before_ascii : (text : List ℕ) (n : ℕ) → n ≤ length text → (n < length text → get_or text n 0 < 128) → IsCharBoundary text n
before_ascii text n within stops = (within, λ lt high. absurd (omega (arith, stops lt, high)))

pub run_boundary : (run : Run) (text : List ℕ) → IsUtf8 text → IsCharBoundary text (prefix_len (has run) text)
run_boundary Blanks text utf8 =
    behind_ascii text _ utf8 (prefix_len-le-length is_blank text) (λ k lt. blank_ascii _ (prefix_len_passes is_blank text k 0 lt))
run_boundary Word text utf8 =
    before_ascii text _ (prefix_len-le-length is_word_byte text) (λ lt. word_stop_ascii _ (prefix_len_stops is_word_byte text 0 lt))
run_boundary Host text utf8 =
    before_ascii text _ (prefix_len-le-length is_host_byte text) (λ lt. host_stop_ascii _ (prefix_len_stops is_host_byte text 0 lt))

pub front_by_length : (p : ℕ → Bool) (text bytes front : List ℕ) (n : ℕ) → n ≡ prefix_len p bytes → bytes ≡ text → front ≡ take n text → front ≡ run_of p text
front_by_length p text bytes front n size same cut = cut ∙ ap (λ k. take k text) (size ∙ ap (prefix_len p) same) ∙ run_is_front p text

pub rest_by_length : (p : ℕ → Bool) (text bytes rest : List ℕ) (n : ℕ) → n ≡ prefix_len p bytes → bytes ≡ text → rest ≡ drop n text → rest ≡ past_run p text
rest_by_length p text bytes rest n size same cut = cut ∙ ap (λ k. drop k text) (size ∙ ap (prefix_len p) same) ∙ rest_is_past p text
