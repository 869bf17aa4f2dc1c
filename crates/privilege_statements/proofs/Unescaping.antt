-- A name without its escapes is a name.
use Rattle.std.proofs.Common.{◌≡◌, ℕ, suc, ◌+◌, ◌<◌, ◌≤◌, ◌==◌, Bool, true, false, cond, if◌then◌else◌, not, ◌&&◌, ◌||◌, List, [], ◌∷◌, ◌++◌, length, encode_utf8_all, append_assoc, refl, sym, ap, ◌∙◌, inl, inr, subst, arith}
use Rattle.std.proofs.lemmas.Bool.{and_from, and_parts, cases_eq, or_from, or_parts}
use Rattle.std.proofs.lemmas.Bool.Decides.{nat_tests}
use Rattle.std.proofs.lemmas.Str.{chars-encodes}
use Rattle.std.specs.Char.{encode_utf8, is_ascii_control}
use Rattle.std.specs.List.{list_any, position, position_or_len}
use Rattle.std.specs.Prelude.{Option, Some, None, nat_lt}
use Rattle.std.specs.Str.{IsUtf8, chars}
use lib.Utf8.{scalar, scalars}
use Rattle.acl_names.specs.declared.refusal.NameRefusal.TheVariants.{TooLong}
use Rattle.acl_names.specs.Name.{control_fault, ident_fault, length_fault}
use Rattle.priv_items.proofs.Escaping.{step_back, step_on}
use Rattle.priv_items.specs.Escapes.{held_back, is_escape, unescaped}

-- the text is spelled by a few characters
record Few (text : List ℕ) (limit : ℕ) : Type 0 where
  characters : List ℕ
  spell : encode_utf8_all characters ≡ text
  valid : scalars characters ≡ true
  few : length characters ≤ limit

-- how many characters were held back
abbrev held_count : Bool → ℕ
held_count true = 1
held_count false = 0

held_at_most : (held other : Bool) → held_count (held && other) ≤ held_count held
held_at_most true true = omega arith
held_at_most true false = omega arith
held_at_most false other = omega arith

-- a backslash in front, or none
behind_backslash : (b : Bool) (text whole : List ℕ) (limit more : ℕ) → Few text limit → held_count b + limit ≤ more → (if b then 92 ∷ [] else []) ++ text ≡ whole → Few whole more
unfolding encode_utf8
behind_backslash true text whole limit more below room same =
    record {
      characters = 92 ∷ below.characters;
      spell = ap (λ rest. 92 ∷ rest) below.spell ∙ same;
      valid = below.valid;
      few = let h : length below.characters ≤ limit = below.few in omega arith;
    }
behind_backslash false text whole limit more below room same =
    record { characters = below.characters; spell = below.spell ∙ same; valid = below.valid; few = let h : length below.characters ≤ limit = below.few in omega arith }

-- a character in front
behind_one : (c : ℕ) (text : List ℕ) (limit : ℕ) → scalar c ≡ true → Few text limit → Few (encode_utf8 c ++ text) (suc limit)
behind_one c text limit valid below =
    record {
      characters = c ∷ below.characters;
      spell = ap (λ rest. encode_utf8 c ++ rest) below.spell;
      valid = and_from (scalar c) (scalars below.characters) valid below.valid;
      few = let h : length below.characters ≤ limit = below.few in omega arith;
    }

-- characters that are read behind what was held back
few_left : (held : Bool) (cs : List ℕ) → scalars cs ≡ true → Few (unescaped (held_back held (encode_utf8_all cs))) (held_count held + length cs)
unfolding encode_utf8
few_left true [] valid = record { characters = 92 ∷ []; spell = refl; valid = refl; few = omega arith }
few_left false [] valid = record { characters = []; spell = refl; valid = refl; few = omega arith }
few_left held (c ∷ cs) valid =
    let b : Bool = held && not (c == 37 || c == 95) in
    let text : List ℕ = encode_utf8_all cs in
    let parts : (scalar c ≡ true) × (scalars cs ≡ true) = and_parts (scalar c) (scalars cs) valid in
    let room : held_count b ≤ held_count held = held_at_most held (not (c == 37 || c == 95)) in
    elim (cases_eq c 92) [
      | inl same ↦
          behind_backslash b (unescaped (92 ∷ text)) (unescaped (held_back held (encode_utf8 c ++ text))) (1 + length cs) (held_count held + suc (length cs))
          (few_left true cs parts.1) (omega arith) (step_back held c [] (if b then 92 ∷ [] else []) same refl text)
      | inr other ↦
          behind_backslash b (encode_utf8 c ++ unescaped text) (unescaped (held_back held (encode_utf8 c ++ text))) (suc (0 + length cs)) (held_count held + suc (length cs))
          (behind_one c (unescaped text) (0 + length cs) parts.0 (few_left false cs parts.1)) (omega arith)
          (sym (append_assoc (if b then 92 ∷ [] else []) (encode_utf8 c) (unescaped text))
          ∙ step_on held c [] (if b then 92 ∷ [] else []) ((if b then 92 ∷ [] else []) ++ encode_utf8 c) other refl refl text)
    ]

fewer_characters : (text : List ℕ) → IsUtf8 text → length (chars (unescaped text)) ≤ length (chars text)
fewer_characters text (cs, (valid, spell)) =
    let P : List ℕ → Type 0 = λ t. Few (unescaped t) (0 + length cs) in
    let found : Few (unescaped text) (0 + length cs) = subst P spell (few_left false cs valid) in
    let before : chars text ≡ cs = ap chars (sym spell) ∙ chars-encodes cs valid in
    let after : chars (unescaped text) ≡ found.characters = ap chars (sym found.spell) ∙ chars-encodes found.characters found.valid in
    let few : length found.characters ≤ 0 + length cs = found.few in
    let before' : length (chars text) ≡ length cs = ap length before in
    let after' : length (chars (unescaped text)) ≡ length found.characters = ap length after in
    omega arith

-- a position is found where some element passes
at_some : {X : Type 0} (p : X → Bool) (xs : List X) → nat_lt (position_or_len p xs) (length xs) ≡ list_any p xs
at_some p [] = refl
at_some p (x ∷ xs) = further (p x) (position_or_len p xs) (length xs) (list_any p xs) (at_some p xs)
  where
    further : (t : Bool) (n m : ℕ) (any : Bool) → nat_lt n m ≡ any → nat_lt (cond (not t) (1 + n) 0) (suc m) ≡ (t || any)
    further true n m any same = grind (arith, nat_tests)
    further false n m any same = grind (arith, nat_tests)

none_from : (t : Bool) (n : ℕ) → cond t (Some n) None ≡ None → t ≡ false
none_from true n h = cc
none_from false n h = refl

no_control : (text : List ℕ) → list_any is_ascii_control text ≡ false → list_any is_ascii_control (unescaped text) ≡ false
no_control [] clear = refl
no_control (b ∷ bs) clear =
    let parts : (is_ascii_control b ≡ false) × (list_any is_ascii_control bs ≡ false) = or_parts (is_ascii_control b) (list_any is_ascii_control bs) clear in
    let rest : list_any is_ascii_control (unescaped bs) ≡ false = no_control bs parts.1 in
    elim (is_escape b bs) as (λ t. list_any is_ascii_control (if t then unescaped bs else b ∷ unescaped bs) ≡ false) [
      | true ↦ rest
      | false ↦ or_from (is_ascii_control b) (list_any is_ascii_control (unescaped bs)) parts.0 rest
    ]

fault_parts : (o : Option ℕ) (text : List ℕ) → control_fault o (length_fault 64 text) ≡ None → (o ≡ None) × (length (chars text) ≤ 64)
fault_parts (Some offset) text none = cc
fault_parts None text none = (refl, grind (arith, nat_tests))

faultless : (text : List ℕ) → 0 < length text → list_any is_ascii_control text ≡ false → length (chars text) ≤ 64 → ident_fault 64 text ≡ None
faultless [] some clear few = absurd (omega arith)
faultless (b ∷ bs) some clear few =
    let none : position is_ascii_control (b ∷ bs) ≡ None =
    ap (λ t. cond t (Some (position_or_len is_ascii_control (b ∷ bs))) None) (at_some is_ascii_control (b ∷ bs) ∙ clear) in
    ap (λ o. control_fault o (length_fault 64 (b ∷ bs))) none ∙ within (length (chars (b ∷ bs))) few
  where
    within : (n : ℕ) → n ≤ 64 → (if nat_lt 64 n then Some (TooLong 64) else None) ≡ None
    within n less = grind (arith, nat_tests)

-- a wildcard stays where its backslash goes
still_some : (b : ℕ) (bs : List ℕ) → 0 < length (unescaped (b ∷ bs))
still_some b [] = elim (b == 92) as (λ t. 0 < length (if t && false then [] else b ∷ [])) [ true ↦ omega arith | false ↦ omega arith ]
still_some b (c ∷ cs) =
    elim (is_escape b (c ∷ cs)) as (λ t. 0 < length (if t then unescaped (c ∷ cs) else b ∷ unescaped (c ∷ cs))) [ true ↦ still_some c cs | false ↦ omega arith ]

pub stays_a_name : (text : List ℕ) → IsUtf8 text → ident_fault 64 text ≡ None → ident_fault 64 (unescaped text) ≡ None
stays_a_name [] utf8 none = none
stays_a_name (b ∷ bs) utf8 none =
    let parts : (position is_ascii_control (b ∷ bs) ≡ None) × (length (chars (b ∷ bs)) ≤ 64) = fault_parts (position is_ascii_control (b ∷ bs)) (b ∷ bs) none in
    let clear : list_any is_ascii_control (b ∷ bs) ≡ false =
    sym (at_some is_ascii_control (b ∷ bs)) ∙ none_from (nat_lt (position_or_len is_ascii_control (b ∷ bs)) (length (b ∷ bs))) (position_or_len is_ascii_control (b ∷ bs)) parts.0 in
    let fewer : length (chars (unescaped (b ∷ bs))) ≤ length (chars (b ∷ bs)) = fewer_characters (b ∷ bs) utf8 in
    faultless (unescaped (b ∷ bs)) (still_some b bs) (no_control (b ∷ bs) clear) (omega (arith, parts.1))
