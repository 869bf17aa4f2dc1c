-- What the writing of names and strings does to each character.
use Rattle.std.proofs.Common.{◌≡◌, ◌≢◌, ℕ, suc, ◌<◌, Bool, true, false, cond, eqb, ◌&&◌, ◌||◌, List, [], ◌∷◌, ◌++◌, length, get_or, encode_utf8_all, append-nil, append_assoc, refl, sym, subst, ap, ◌∙◌, arith, ◌⊎◌, inl, inr, ⊎_elim}
use Rattle.std.proofs.lemmas.Bool.Decides.{nat_tests}
use Rattle.std.proofs.lemmas.Grind.{flat_map-append}
use Rattle.std.proofs.lemmas.Str.{encodes-append, inside_one, len_utf8_bounds, length-encode}
use Rattle.std.specs.Char.{encode_utf8}
use Rattle.mandatory_roles.proofs.Bytes.{is_byte, not_byte, other_byte}
use Rattle.priv_items.specs.Escapes.{escaped_behind, is_wildcard}
use Rattle.canonical_texts.specs.Quotes.{string_byte, string_inside}

-- each ASCII byte of the list is this character
abbrev IsOnly : ℕ → List ℕ → Type 0
IsOnly character text = (i : ℕ) → i < length text → get_or text i 0 < 128 → character ≡ get_or text i 0

encoded_only : (character : ℕ) → IsOnly character (encode_utf8 character)
encoded_only character i short low = inside_one character [] (encode_utf8 character) i (sym (append-nil (encode_utf8 character))) short low

only_rest : (character b : ℕ) (bs : List ℕ) → IsOnly character (b ∷ bs) → IsOnly character bs
only_rest character b bs only i short low = only (suc i) (omega arith) low

other_string_byte : (b : ℕ) → b ≢ 39 → b ≢ 92 → string_byte b ≡ b ∷ []
other_string_byte b quote slash = grind (arith, nat_tests)

differs : (character b other : ℕ) → (b < 128 → character ≡ b) → character ≢ other → other < 128 → b ≢ other
differs character b other same apart low is = apart (same (subst (λ k. k < 128) (sym is) low) ∙ is)

string_inside-only : (character : ℕ) (text : List ℕ) → IsOnly character text → character ≢ 39 → character ≢ 92 → string_inside text ≡ text
string_inside-only character [] only quote slash = refl
string_inside-only character (b ∷ bs) only quote slash =
    let first : string_byte b ≡ b ∷ [] = other_string_byte b (differs character b 39 (only 0 (omega arith)) quote (omega arith)) (differs character b 92 (only 0 (omega arith)) slash (omega arith)) in
    ap (λ l. l ++ string_inside bs) first ∙ ap (λ l. b ∷ l) (string_inside-only character bs (only_rest character b bs only) quote slash)

pub string_inside-encode_utf8 : (character : ℕ) → character ≢ 39 → character ≢ 92 → string_inside (encode_utf8 character) ≡ encode_utf8 character
string_inside-encode_utf8 character quote slash = string_inside-only character (encode_utf8 character) (encoded_only character) quote slash

pub string_inside-push : (characters : List ℕ) (character : ℕ)
    → string_inside (encode_utf8_all (characters ++ character ∷ [])) ≡ string_inside (encode_utf8_all characters) ++ string_inside (encode_utf8 character)
string_inside-push characters character = simp (encodes-append, append-nil, flat_map-append)

-- whether the text, behind a backslash or not, ends with one
abbrev pub ends_after : Bool → List ℕ → Bool
ends_after after [] = after
ends_after after (b ∷ bs) = ends_after (eqb b 92) bs

kept-append : (after : Bool) (xs ys : List ℕ) → escaped_behind after (xs ++ ys) ≡ escaped_behind after xs ++ escaped_behind (ends_after after xs) ys
kept-append after [] ys = refl
kept-append after (b ∷ bs) ys =
    ap (λ l. cond (after && is_wildcard b) (92 ∷ b ∷ []) (b ∷ []) ++ l) (kept-append (eqb b 92) bs ys)
    ∙ sym (append_assoc (cond (after && is_wildcard b) (92 ∷ b ∷ []) (b ∷ [])) (escaped_behind (eqb b 92) bs) (escaped_behind (ends_after (eqb b 92) bs) ys))

ends-append : (after : Bool) (xs ys : List ℕ) → ends_after after (xs ++ ys) ≡ ends_after (ends_after after xs) ys
ends-append after [] ys = refl
ends-append after (b ∷ bs) ys = ends-append (eqb b 92) bs ys

-- a character that is no wildcard stays as it is
not_wildcard : (b : ℕ) → b ≢ 37 → b ≢ 95 → is_wildcard b ≡ false
not_wildcard b percent line = grind (arith, nat_tests)

never_kept : (after : Bool) (t : Bool) (b : ℕ) → t ≡ false → cond (after && t) (92 ∷ b ∷ []) (b ∷ []) ≡ b ∷ []
never_kept true t b e = ap (λ k. cond k (92 ∷ b ∷ []) (b ∷ [])) e
never_kept false t b e = refl

kept-only : (after : Bool) (character : ℕ) (text : List ℕ) → IsOnly character text → character ≢ 37 → character ≢ 95 → escaped_behind after text ≡ text
kept-only after character [] only percent line = refl
kept-only after character (b ∷ bs) only percent line =
    let plain = not_wildcard b (differs character b 37 (only 0 (omega arith)) percent (omega arith)) (differs character b 95 (only 0 (omega arith)) line (omega arith)) in
    ap (λ l. l ++ escaped_behind (eqb b 92) bs) (never_kept after (is_wildcard b) b plain)
    ∙ ap (λ l. b ∷ l) (kept-only (eqb b 92) character bs (only_rest character b bs only) percent line)

pub kept-encode_utf8 : (after : Bool) (character : ℕ) → character ≢ 37 → character ≢ 95 → escaped_behind after (encode_utf8 character) ≡ encode_utf8 character
kept-encode_utf8 after character percent line = kept-only after character (encode_utf8 character) (encoded_only character) percent line

wildcard_is : (b : ℕ) → is_wildcard b ≡ true → (b ≡ 37) ⊎ (b ≡ 95)
wildcard_is b e = wildcard_test b (eqb b 37) refl e
  where
    wildcard_test : (b : ℕ) (t : Bool) → eqb b 37 ≡ t → t || eqb b 95 ≡ true → (b ≡ 37) ⊎ (b ≡ 95)
    wildcard_test b true f e = inl (is_byte b 37 f)
    wildcard_test b false f e = inr (is_byte b 95 e)

not_percent : (b : ℕ) → is_wildcard b ≡ false → b ≢ 37
not_percent b e = grind (arith, nat_tests)

not_line : (b : ℕ) → is_wildcard b ≡ false → b ≢ 95
not_line b e = grind (arith, nat_tests)

free_test : (character : ℕ) (t : Bool) → is_wildcard character ≡ t → escaped_behind false (encode_utf8 character) ≡ encode_utf8 character
unfolding encode_utf8
free_test character false e = kept-encode_utf8 false character (not_percent character e) (not_line character e)
free_test character true e =
    ⊎_elim (λ is. subst (λ k. escaped_behind false (encode_utf8 k) ≡ encode_utf8 k) (sym is) refl)
    (λ is. subst (λ k. escaped_behind false (encode_utf8 k) ≡ encode_utf8 k) (sym is) refl)
    (wildcard_is character e)

-- a character that is no wildcard behind a backslash stays as it is
pub kept-free : (character : ℕ) → escaped_behind false (encode_utf8 character) ≡ encode_utf8 character
kept-free character = free_test character (is_wildcard character) refl

pub kept-other : (after : Bool) (character : ℕ) → is_wildcard character ≡ false → escaped_behind after (encode_utf8 character) ≡ encode_utf8 character
kept-other after character e = kept-encode_utf8 after character (not_percent character e) (not_line character e)

-- and a wildcard there has one more backslash before it
pub kept-wildcard : (character : ℕ) → is_wildcard character ≡ true → escaped_behind true (encode_utf8 character) ≡ 92 ∷ encode_utf8 character
unfolding encode_utf8
kept-wildcard character e =
    ⊎_elim (λ is. subst (λ k. escaped_behind true (encode_utf8 k) ≡ 92 ∷ encode_utf8 k) (sym is) refl)
    (λ is. subst (λ k. escaped_behind true (encode_utf8 k) ≡ 92 ∷ encode_utf8 k) (sym is) refl)
    (wildcard_is character e)

-- what is kept so far, and whether a backslash stands last
pub record IsKeptSoFar (characters kept : List ℕ) (after : Bool) : Type 0 where
  pub kept_is : kept ≡ escaped_behind false (encode_utf8_all characters)
  pub after_is : after ≡ ends_after false (encode_utf8_all characters)

ends_only : (after : Bool) (character : ℕ) (text : List ℕ) → IsOnly character text → character ≢ 92 → after ≡ false → ends_after after text ≡ false
ends_only after character [] only slash e = e
ends_only after character (b ∷ bs) only slash e =
    let plain : eqb b 92 ≡ false = other_byte b 92 (differs character b 92 (only 0 (omega arith)) slash (omega arith)) in
    ends_only (eqb b 92) character bs (only_rest character b bs only) slash plain

ends_first : (after : Bool) (character : ℕ) (text : List ℕ) → 0 < length text → IsOnly character text → character ≢ 92 → ends_after after text ≡ false
ends_first after character [] some only slash = absurd (omega arith)
ends_first after character (b ∷ bs) some only slash =
    let plain : eqb b 92 ≡ false = other_byte b 92 (differs character b 92 (only 0 (omega arith)) slash (omega arith)) in
    ends_only (eqb b 92) character bs (only_rest character b bs only) slash plain

ends_test : (after : Bool) (character : ℕ) (t : Bool) → eqb character 92 ≡ t → ends_after after (encode_utf8 character) ≡ t
unfolding encode_utf8
ends_test after character true e = subst (λ k. ends_after after (encode_utf8 k) ≡ true) (sym (is_byte character 92 e)) refl
ends_test after character false e =
    let size = length-encode character in
    let low = (len_utf8_bounds character).0 in
    ends_first after character (encode_utf8 character) (omega (arith, size, low)) (encoded_only character) (not_byte character 92 e)

encode_push : (characters : List ℕ) (character : ℕ) → encode_utf8_all (characters ++ character ∷ []) ≡ encode_utf8_all characters ++ encode_utf8 character
encode_push characters character = simp (encodes-append, append-nil)

pub kept_more : (characters kept more : List ℕ) (character : ℕ) (after next : Bool) → IsKeptSoFar characters kept after → more ≡ kept ++ escaped_behind after (encode_utf8 character) → next ≡ eqb character 92
    → IsKeptSoFar (characters ++ character ∷ []) more next
kept_more characters kept more character after next so_far more_is next_is = record {
  kept_is =
      more_is
      ∙ ap (λ l. l ++ escaped_behind after (encode_utf8 character)) so_far.kept_is
      ∙ ap (λ a. escaped_behind false (encode_utf8_all characters) ++ escaped_behind a (encode_utf8 character)) so_far.after_is
      ∙ sym (ap (escaped_behind false) (encode_push characters character) ∙ kept-append false (encode_utf8_all characters) (encode_utf8 character));
  after_is =
      next_is
      ∙ sym (ap (ends_after false) (encode_push characters character) ∙ ends-append false (encode_utf8_all characters) (encode_utf8 character) ∙ ends_test (ends_after false (encode_utf8_all characters)) character (eqb character 92) refl);
}

pub append_step : (old so_far more before text : List ℕ) → text ≡ before ++ more → before ≡ old ++ so_far → text ≡ old ++ (so_far ++ more)
append_step old so_far more before text e f = e ∙ ap (λ l. l ++ more) f ∙ append_assoc old so_far more
