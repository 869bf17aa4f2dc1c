-- Reading and writing escaped wildcards.
use Rattle.std.proofs.Common.{◌≡◌, ℕ, ◌<◌, ◌≤◌, ◌^◌, ◌==◌, Bool, true, false, if◌then◌else◌, List, [], ◌∷◌, ◌++◌, length, get_or, ◌≢◌, suc, not, ◌&&◌, ◌||◌, append-nil, append_assoc, encode_utf8_all, inl, inr, ap, ◌∙◌, refl, sym, arith}
use Rattle.std.proofs.lemmas.Bool.Decides.{nat_tests}
use Rattle.std.proofs.lemmas.Bool.{and_parts, cases_lt, eqb-true, ne_eqb}
use Rattle.std.proofs.lemmas.Str.{byte_from_char, encodes-append, inside_one, len_utf8_bounds, length-encode}
use Rattle.std.specs.Char.{encode_utf8}
use Rattle.priv_items.specs.Escapes.{begins_with_wildcard, escaped, escaped_behind, held_back, is_escape, is_wildcard, unescaped}

-- the text is no longer than what it was written as
length-unescaped : (text : List ℕ) → length (unescaped text) ≤ length text
length-unescaped [] = omega arith
length-unescaped (byte ∷ rest) =
    let shorter = length-unescaped rest in
    elim (is_escape byte rest) as (λ t. length (if t then unescaped rest else byte ∷ unescaped rest) ≤ length (byte ∷ rest)) [ true ↦ omega arith | false ↦ omega arith ]

pub unescaped_is_short : (text : List ℕ) → length text < 2 ^ 32 → length (unescaped text) < 2 ^ 32
unescaped_is_short text short = let shorter = length-unescaped text in omega arith

-- the same text, read ahead: a backslash right before a wildcard is doubled
abbrev doubled : List ℕ → List ℕ
doubled [] = []
doubled (byte ∷ rest) = if is_escape byte rest then byte ∷ byte ∷ doubled rest else byte ∷ doubled rest

-- the first byte stays the first
begins-doubled : (text : List ℕ) → begins_with_wildcard (doubled text) ≡ begins_with_wildcard text
begins-doubled [] = refl
begins-doubled (byte ∷ rest) =
    elim (is_escape byte rest) as (λ t. begins_with_wildcard (if t then byte ∷ byte ∷ doubled rest else byte ∷ doubled rest) ≡ begins_with_wildcard (byte ∷ rest)) [ true ↦ refl | false ↦ refl ]

unescaped-doubled : (name : List ℕ) → unescaped (doubled name) ≡ name
unescaped-doubled [] = refl
unescaped-doubled (byte ∷ rest) =
    let same = unescaped-doubled rest in
    let first = begins-doubled rest in
    grind (arith, nat_tests)

one_step : (first second : Bool) (byte : ℕ) (rest : List ℕ) → (second ≡ true → byte ≡ 92)
    → (if first then 92 ∷ byte ∷ [] else byte ∷ []) ++ (if second then 92 ∷ rest else rest)
    ≡ (if first then 92 ∷ (if second then byte ∷ byte ∷ rest else byte ∷ rest) else (if second then byte ∷ byte ∷ rest else byte ∷ rest))
one_step true true byte rest is = ap (λ b. 92 ∷ byte ∷ b ∷ rest) (sym (is refl))
one_step true false byte rest is = refl
one_step false true byte rest is = ap (λ b. byte ∷ b ∷ rest) (sym (is refl))
one_step false false byte rest is = refl

-- wherever the text is cut
escaped_ahead : (after : Bool) (text : List ℕ) → escaped_behind after text ≡ (if after && begins_with_wildcard text then 92 ∷ doubled text else doubled text)
escaped_ahead true [] = refl
escaped_ahead false [] = refl
escaped_ahead after (byte ∷ rest) =
    ap (λ more. (if after && is_wildcard byte then 92 ∷ byte ∷ [] else byte ∷ []) ++ more) (escaped_ahead (byte == 92) rest)
    ∙ one_step (after && is_wildcard byte) (byte == 92 && begins_with_wildcard rest) byte (doubled rest) (λ both. eqb-true byte 92 (and_parts (byte == 92) (begins_with_wildcard rest) both).0)

pub unescaped-escaped : (name : List ℕ) → unescaped (escaped name) ≡ name
unescaped-escaped name = ap unescaped (escaped_ahead false name) ∙ unescaped-doubled name

-- bytes that are no backslash stay
unescaped-none : (text rest : List ℕ) → ((i : ℕ) → i < length text → get_or text i 0 ≢ 92) → unescaped (text ++ rest) ≡ text ++ unescaped rest
unescaped-none [] rest none = refl
unescaped-none (byte ∷ text) rest none =
    let first : byte ≢ 92 = none 0 (omega arith) in
    let others : unescaped (text ++ rest) ≡ text ++ unescaped rest = unescaped-none text rest (λ i short. none (suc i) (omega arith)) in
    grind (arith, nat_tests)

unescaped-encode_utf8 : (character : ℕ) (rest : List ℕ) → character ≢ 92 → unescaped (encode_utf8 character ++ rest) ≡ encode_utf8 character ++ unescaped rest
unescaped-encode_utf8 character rest other =
    unescaped-none (encode_utf8 character) rest (λ i short is. other (inside_one character [] (encode_utf8 character) i (sym (append-nil (encode_utf8 character))) short (omega arith) ∙ is))

begins-from : (text rest : List ℕ) (character : ℕ) → 0 < length text → get_or text 0 0 ≡ character → begins_with_wildcard (text ++ rest) ≡ (character == 37 || character == 95)
begins-from [] rest character some same = absurd (omega arith)
begins-from (byte ∷ text) rest character some same = ap (λ first. first == 37 || first == 95) same

begins-above : (text rest : List ℕ) (character : ℕ) → 0 < length text → 128 ≤ get_or text 0 0 → 128 ≤ character → begins_with_wildcard (text ++ rest) ≡ (character == 37 || character == 95)
begins-above [] rest character some high above = absurd (omega arith)
begins-above (byte ∷ text) rest character some high above =
    (λ i. ne_eqb byte 37 (omega arith) i || ne_eqb byte 95 (omega arith) i) ∙ sym (λ i. ne_eqb character 37 (omega arith) i || ne_eqb character 95 (omega arith) i)

begins-encode_utf8 : (character : ℕ) (rest : List ℕ) → begins_with_wildcard (encode_utf8 character ++ rest) ≡ (character == 37 || character == 95)
begins-encode_utf8 character rest =
    let long = length-encode character in
    let some : 0 < length (encode_utf8 character) = omega (arith, (len_utf8_bounds character).0) in
    elim (cases_lt character 128) [
      | inl below ↦ begins-from (encode_utf8 character) rest character some (byte_from_char (encode_utf8 character) [] character (sym (append-nil (encode_utf8 character))) below)
      | inr above ↦ elim (cases_lt (get_or (encode_utf8 character) 0 0) 128) [
        | inl low ↦ let same : character ≡ get_or (encode_utf8 character) 0 0 = inside_one character [] (encode_utf8 character) 0 (sym (append-nil (encode_utf8 character))) some low in absurd (omega arith)
        | inr high ↦ begins-above (encode_utf8 character) rest character some high above
      ]
    ]

-- a character behind a backslash
after_backslash : (character : ℕ) (rest : List ℕ) → character ≢ 92
    → unescaped (92 ∷ (encode_utf8 character ++ rest)) ≡ (if not (character == 37 || character == 95) then 92 ∷ [] else []) ++ (encode_utf8 character ++ unescaped rest)
after_backslash character rest other =
    (λ i. if begins-encode_utf8 character rest i then unescaped-encode_utf8 character rest other i else 92 ∷ unescaped-encode_utf8 character rest other i)
    ∙ elim (character == 37 || character == 95) as (λ t. (if t then encode_utf8 character ++ unescaped rest else 92 ∷ (encode_utf8 character ++ unescaped rest)) ≡ (if not t then 92 ∷ [] else []) ++ (encode_utf8 character ++ unescaped rest)) [
      | true ↦ refl
      | false ↦ refl
    ]

-- a character that is none, behind what was held back
pub step_on : (held : Bool) (character : ℕ) (before between after : List ℕ) → character ≢ 92 → between ≡ before ++ (if held && not (character == 37 || character == 95) then 92 ∷ [] else [])
    → after ≡ between ++ encode_utf8 character → (rest : List ℕ) → after ++ unescaped (held_back false rest) ≡ before ++ unescaped (held_back held (encode_utf8 character ++ rest))
step_on true character before between after other first second rest =
    (λ i. second i ++ unescaped rest) ∙ (λ i. (first i ++ encode_utf8 character) ++ unescaped rest)
    ∙ simp append_assoc (ap (λ more. before ++ more) (sym (after_backslash character rest other)))
step_on false character before between after other first second rest =
    (λ i. second i ++ unescaped rest) ∙ (λ i. (first i ++ encode_utf8 character) ++ unescaped rest)
    ∙ simp append_assoc (ap (λ more. before ++ more) (sym (unescaped-encode_utf8 character rest other)))

-- a backslash behind what was held back
back : (held : Bool) (before after rest : List ℕ) → after ≡ before ++ (if held && true then 92 ∷ [] else []) → after ++ unescaped (92 ∷ rest) ≡ before ++ unescaped (held_back held (92 ∷ rest))
back true before after rest first = (λ i. first i ++ unescaped (92 ∷ rest)) ∙ append_assoc before (92 ∷ []) (unescaped (92 ∷ rest))
back false before after rest first = (λ i. first i ++ unescaped (92 ∷ rest)) ∙ ap (λ text. text ++ unescaped (92 ∷ rest)) (append-nil before)

pub step_back : (held : Bool) (character : ℕ) (before after : List ℕ) → character ≡ 92 → after ≡ before ++ (if held && not (character == 37 || character == 95) then 92 ∷ [] else [])
    → (rest : List ℕ) → after ++ unescaped (held_back true rest) ≡ before ++ unescaped (held_back held (encode_utf8 character ++ rest))
unfolding encode_utf8
step_back held character before after same first rest =
    back held before after rest (first ∙ (λ i. before ++ (if held && not (same i == 37 || same i == 95) then 92 ∷ [] else [])))
    ∙ ap (λ one. before ++ unescaped (held_back held (encode_utf8 one ++ rest))) (sym same)

pub read_more : (characters : List ℕ) (character : ℕ) (rest : List ℕ) → encode_utf8_all (characters ++ character ∷ []) ++ rest ≡ encode_utf8_all characters ++ (encode_utf8 character ++ rest)
read_more characters character rest = simp (encodes-append, append-nil, append_assoc)

pub nothing_more : (held : Bool) → unescaped (held_back held []) ≡ (if held then 92 ∷ [] else [])
nothing_more true = refl
nothing_more false = refl
