-- What a token stands for is no longer than its text.
use Rattle.std.proofs.Common.{◌&&◌, ◌||◌, ◌==◌, ◌≤◌, ◌<◌, ◌^◌, ℕ, suc, not, if◌then◌else◌, Bool, true, false, List, [], ◌∷◌, ◌++◌, length, arith}
use Rattle.grant_lex.specs.Class.{is_quote}
use Rattle.grant_lex.specs.Inside.{is_escaped, keeps_backslash}
use Rattle.grant_lex.specs.Value.{inside_value, value_of}

chosen : {A : Type 0} (b : Bool) (xs ys : List A) (n : ℕ) → length xs ≤ n → length ys ≤ n → length (if b then xs else ys) ≤ n
chosen true xs ys n h k = h
chosen false xs ys n h k = k

kept : (k : Bool) (c : ℕ) (xs : List ℕ) (n : ℕ) → length xs ≤ n → length ((if k then 92 ∷ c ∷ [] else c ∷ []) ++ xs) ≤ suc (suc n)
kept true c xs n h = omega arith
kept false c xs n h = omega arith

pub inside_is_shorter : (quote : ℕ) (text : List ℕ) → length (inside_value quote text) ≤ length text
unfolding inside_value
inside_is_shorter quote [] = omega arith
inside_is_shorter quote (b ∷ []) = chosen (b == quote || not (quote == 96) && b == 92) [] (b ∷ []) 1 (omega arith) (omega arith)
inside_is_shorter quote (b ∷ c ∷ rest) =
    let h : length (inside_value quote rest) ≤ length rest = inside_is_shorter quote rest in
    let k : length (inside_value quote (c ∷ rest)) ≤ suc (length rest) = inside_is_shorter quote (c ∷ rest) in
    let escape : List ℕ = if keeps_backslash c then 92 ∷ c ∷ [] else c ∷ [] in
    let n : ℕ = suc (suc (length rest)) in
    chosen (b == quote) (if c == quote then quote ∷ inside_value quote rest else [])
    (if not (quote == 96) && b == 92 then (if is_escaped c then escape ++ inside_value quote rest else []) else b ∷ inside_value quote (c ∷ rest)) n
    (chosen (c == quote) (quote ∷ inside_value quote rest) [] n (omega arith) (omega arith))
    (chosen (not (quote == 96) && b == 92) (if is_escaped c then escape ++ inside_value quote rest else []) (b ∷ inside_value quote (c ∷ rest)) n
    (chosen (is_escaped c) (escape ++ inside_value quote rest) [] n (kept (keeps_backslash c) c (inside_value quote rest) (length rest) h) (omega arith))
    (omega arith))

pub value_is_shorter : (text : List ℕ) → length text < 2 ^ 32 → length (value_of text) < 2 ^ 32
value_is_shorter [] h = h
value_is_shorter (b ∷ rest) h =
    let k : length (inside_value b rest) ≤ length rest = inside_is_shorter b rest in
    let both : length (if is_quote b then inside_value b rest else b ∷ rest) ≤ suc (length rest) =
    chosen (is_quote b) (inside_value b rest) (b ∷ rest) (suc (length rest)) (omega arith) (omega arith) in
    omega arith
