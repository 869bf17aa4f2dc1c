-- What the beginning of a command line may be, byte by byte, and where a text stops to be one.
use Rattle.std.proofs.Common.{◌≡◌, ◌≢◌, ℕ, ◌+◌, ◌<◌, ◌≤◌, Bool, true, false, ◌&&◌, nat_le, IsTrue, List, [], ◌∷◌, ◌++◌, length, get_or, take, drop, suc, codes, Option, None, Some, MatchOption, IsSomeAnd, add-one, append_assoc, length-append, refl, sym, ap, ◌∙◌, inl, inr, arith}
use Rattle.std.specs.List.{list_all}
use Rattle.std.proofs.lemmas.Bool.{and_parts, cases_lt, le-leb, leb-true}
use Rattle.std.proofs.lemmas.List.{get_or-take, get_or_default, take_more, length-take-le, take-append-drop}
use Rattle.std.proofs.lemmas.List.Sums.{AllPass-from_list_all, list_all-from_AllPass}
use Rattle.std.proofs.Math.ListN.{get_or-append}
use Rattle.std.proofs.Math.Seq.{drop-cons, get_or-append_seam}
use Rattle.script_lines.specs.Beginnings.{is_session_byte, is_session_name, line_text, IsLineFront, IsUnbegun}

pub some_and : {X : Type 0} (o : Option X) (P : X → Type 0) → MatchOption o ⊥ P → IsSomeAnd o P
some_and None P h = h
some_and (Some x) P h = h

pub not_both : (b : Bool) → b ≡ false → b ≡ true → ⊥
not_both b wrong right = let e : false ≡ true = sym wrong ∙ right in absurd (cc)

-- names

record HasNameBytes (name : List ℕ) : Type 0 where
  some : 1 ≤ length name
  few : length name ≤ 32
  bytes : list_all is_session_byte name ≡ true

name_bytes : (name : List ℕ) → is_session_name name ≡ true → HasNameBytes name
unfolding is_session_name
name_bytes name is_name =
    let parts = and_parts (nat_le 1 (length name) && nat_le (length name) 32) (list_all is_session_byte name) is_name in
    let sizes = and_parts (nat_le 1 (length name)) (nat_le (length name) 32) parts.0 in
    record { some = leb-true 1 (length name) sizes.0; few = leb-true (length name) 32 sizes.1; bytes = parts.1 }

bytes_name : (name : List ℕ) → 1 ≤ length name → length name ≤ 32 → ((k : ℕ) → k < length name → is_session_byte (get_or name k 0) ≡ true) → is_session_name name ≡ true
unfolding is_session_name
bytes_name name some few bytes =
    rw (le-leb 1 (length name) some, le-leb (length name) 32 few, list_all-from_AllPass is_session_byte name (λ k d below. ap is_session_byte (get_or_default name k d 0 below) ∙ bytes k below))

name_byte : (name : List ℕ) → is_session_name name ≡ true → (i : ℕ) → i < length name → is_session_byte (get_or name i 0) ≡ true
name_byte name is_name i below = AllPass-from_list_all is_session_byte name (name_bytes name is_name).bytes i 0 below

-- `>` stands in no name
not_mark : (byte : ℕ) → byte ≡ 62 → is_session_byte byte ≡ true → ⊥
not_mark byte same is_byte = let wrong : is_session_byte 62 ≡ true = sym (ap is_session_byte same) ∙ is_byte in absurd (cc)

pub no_mark : (name : List ℕ) → is_session_name name ≡ true → (i : ℕ) → i < length name → get_or name i 0 ≢ 62
no_mark name is_name i below same = not_mark (get_or name i 0) same (name_byte name is_name i below)

-- the first bytes of a text, which begin some command line: a name of this size, `>` and a space
record Begins (text : List ℕ) (count : ℕ) : Type 0 where
  size : ℕ
  some : 1 ≤ size
  few : size ≤ 32
  short : count ≤ size + 2
  inside : (i : ℕ) → i < count → i < size → is_session_byte (get_or text i 0) ≡ true
  mark : size < count → get_or text size 0 ≡ 62
  space : size + 1 < count → get_or text (size + 1) 0 ≡ 32

begins : (text : List ℕ) (count : ℕ) → count ≤ length text → IsLineFront (take count text) → Begins text count
begins text count within front =
    let name = front.name in
    let whole = name ++ codes "> " in
    let long : length (take count text) ≡ count = length-take-le count text within in
    let at = λ (i : ℕ) (below : i < count). sym (get_or-take count text i 0 below) ∙ (sym (get_or-append (take count text) front.more 0 i (omega (arith, long))) ∙ ap (λ l. get_or l i 0) front.goes_on) in
    let known = name_bytes name front.is_name in
    record {
      size = length name;
      some = known.some;
      few = known.few;
      short = omega (arith, long, ap length front.goes_on, length-append (take count text) front.more, length-append name (codes "> "));
      inside = λ i below inner. ap is_session_byte (at i below ∙ get_or-append name (codes "> ") 0 i inner) ∙ name_byte name front.is_name i inner;
      mark = λ below. at (length name) below ∙ get_or-append_seam name 62 (32 ∷ []) 0;
      space = λ below. at (length name + 1) below ∙ ap (λ l. get_or l (length name + 1) 0) (sym (append_assoc name (62 ∷ []) (32 ∷ [])))
          ∙ ap (λ n. get_or ((name ++ 62 ∷ []) ++ 32 ∷ []) n 0) (sym (length-append name (62 ∷ []))) ∙ get_or-append_seam (name ++ 62 ∷ []) 32 [] 0;
    }

-- fronts

front_none : (text : List ℕ) → IsLineFront (take 0 text)
unfolding is_session_name
front_none text = record { name = 97 ∷ []; more = codes "a> "; is_name = refl; goes_on = refl }

taken_name : (text : List ℕ) (count : ℕ) → 1 ≤ count → count ≤ 32 → count ≤ length text → ((k : ℕ) → k < count → is_session_byte (get_or text k 0) ≡ true) → is_session_name (take count text) ≡ true
taken_name text count some few within bytes =
    let long : length (take count text) ≡ count = length-take-le count text within in
    bytes_name (take count text) (omega arith) (omega arith) (λ k below. ap is_session_byte (get_or-take count text k 0 (omega arith)) ∙ bytes k (omega arith))

front_name : (text : List ℕ) (count : ℕ) → 1 ≤ count → count ≤ 32 → count ≤ length text → ((k : ℕ) → k < count → is_session_byte (get_or text k 0) ≡ true) → IsLineFront (take count text)
front_name text count some few within bytes =
    record { name = take count text; more = codes "> "; is_name = taken_name text count some few within bytes; goes_on = refl }

take_one_more : (text : List ℕ) (count byte : ℕ) → count < length text → get_or text count 0 ≡ byte → take (count + 1) text ≡ take count text ++ byte ∷ []
take_one_more text count byte below at = take_more text count 0 below ∙ ap (λ last. take count text ++ last ∷ []) at

front_mark : (text : List ℕ) (count : ℕ) → 1 ≤ count → count ≤ 32 → count < length text → ((k : ℕ) → k < count → is_session_byte (get_or text k 0) ≡ true)
    → get_or text count 0 ≡ 62 → IsLineFront (take (count + 1) text)
front_mark text count some few below bytes mark = record {
  name = take count text;
  more = codes " ";
  is_name = taken_name text count some few (omega arith) bytes;
  goes_on = ap (λ front. front ++ codes " ") (take_one_more text count 62 below mark) ∙ append_assoc (take count text) (62 ∷ []) (32 ∷ []);
}

-- places

abbrev HasNoLine : List ℕ → Type 0
HasNoLine text = (name command : List ℕ) → IsTrue (is_session_name name) → text ≡ line_text name command → ⊥

-- the size of the name and the number of bytes that a name may have are the same
same_size : (text : List ℕ) (size count : ℕ) (b : Begins text count) → size < count → ((k : ℕ) → k < size → is_session_byte (get_or text k 0) ≡ true) → is_session_byte (get_or text size 0) ≡ false → b.size ≡ size
same_size text size count b below before ends =
    elim (cases_lt b.size size) [
      | inl less ↦ absurd (not_mark (get_or text b.size 0) (b.mark (omega arith)) (before b.size less))
      | inr more ↦ elim (cases_lt size b.size) [
        | inl less ↦ absurd (not_both (is_session_byte (get_or text size 0)) ends (b.inside size below less))
        | inr same ↦ omega arith
      ]
    ]

pub place_long : (text : List ℕ) (size : ℕ) → size ≤ length text → ((k : ℕ) → k < size → is_session_byte (get_or text k 0) ≡ true) → 32 < size → HasNoLine text → IsUnbegun text 32
place_long text size within before long unbegun = record {
  within = omega arith;
  front = front_name text 32 (omega arith) (omega arith) (omega arith) (λ k below. before k (omega arith));
  stops = λ below front. let b = begins text 33 (omega arith) front in not_mark (get_or text b.size 0) (b.mark (omega (arith, b.few))) (before b.size (omega (arith, b.few)));
  unbegun = unbegun;
}

pub place_none : (text : List ℕ) → (0 < length text → is_session_byte (get_or text 0 0) ≡ false) → HasNoLine text → IsUnbegun text 0
place_none text ends unbegun = record {
  within = omega arith;
  front = front_none text;
  stops = λ below front. let b = begins text 1 (omega arith) front in not_both (is_session_byte (get_or text 0 0)) (ends below) (b.inside 0 (omega arith) (omega (arith, b.some)));
  unbegun = unbegun;
}

pub place_end : (text : List ℕ) (size : ℕ) → size ≡ length text → ((k : ℕ) → k < size → is_session_byte (get_or text k 0) ≡ true) → 1 ≤ size → size ≤ 32 → HasNoLine text → IsUnbegun text size
place_end text size all before some few unbegun = record {
  within = omega arith;
  front = front_name text size some few (omega arith) before;
  stops = λ below front. absurd (omega arith);
  unbegun = unbegun;
}

pub place_name : (text : List ℕ) (size : ℕ) → size < length text → ((k : ℕ) → k < size → is_session_byte (get_or text k 0) ≡ true) → is_session_byte (get_or text size 0) ≡ false → 1 ≤ size → size ≤ 32
    → get_or text size 0 ≢ 62 → HasNoLine text → IsUnbegun text size
place_name text size below before ends some few other unbegun = record {
  within = omega arith;
  front = front_name text size some few (omega arith) before;
  stops = λ inner front.
      let b = begins text (size + 1) (omega arith) front in
      let same = same_size text size (size + 1) b (omega arith) before ends in
      other (ap (λ n. get_or text n 0) (sym same) ∙ b.mark (omega (arith, same)));
  unbegun = unbegun;
}

pub place_mark : (text : List ℕ) (size : ℕ) → size < length text → ((k : ℕ) → k < size → is_session_byte (get_or text k 0) ≡ true) → is_session_byte (get_or text size 0) ≡ false → 1 ≤ size → size ≤ 32
    → get_or text size 0 ≡ 62 → HasNoLine text → IsUnbegun text (size + 1)
place_mark text size below before ends some few mark unbegun = record {
  within = omega arith;
  front = front_mark text size some few below before mark;
  stops = λ inner front.
      let b = begins text (size + 1 + 1) (omega arith) front in
      let same = same_size text size (size + 1 + 1) b (omega arith) before ends in
      let space : get_or text (size + 1) 0 ≡ 32 = ap (λ n. get_or text (n + 1) 0) (sym same) ∙ b.space (omega (arith, same)) in
      let first : drop size text ≡ 62 ∷ drop (suc size) text = drop-cons text size 0 below ∙ ap (λ byte. byte ∷ drop (suc size) text) mark in
      let second : drop (suc size) text ≡ 32 ∷ drop (suc (suc size)) text = drop-cons text (suc size) 0 (omega arith) ∙ ap (λ n. get_or text n 0 ∷ drop (suc (suc size)) text) (sym (add-one size)) ∙ ap (λ byte. byte ∷ drop (suc (suc size)) text) space in
      let rest : drop size text ≡ 62 ∷ 32 ∷ drop (suc (suc size)) text = first ∙ ap (λ l. 62 ∷ l) second in
      unbegun (take size text) (drop (suc (suc size)) text) (taken_name text size some few (omega arith) before) (sym (take-append-drop size text) ∙ ap (λ l. take size text ++ l) rest);
  unbegun = unbegun;
}
