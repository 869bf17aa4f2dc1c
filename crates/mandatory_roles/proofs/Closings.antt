-- The backquote that closes a name, found from the left.
use Rattle.std.proofs.Common.{◌≡◌, ◌≢◌, ℕ, zero, suc, ◌+◌, ◌<◌, ◌≤◌, true, false, eqb, List, [], ◌∷◌, ◌++◌, Option, Some, None, option_map, length, get_or, take, drop, refl, sym, subst, ap, ◌∙◌, arith, append_assoc, add-one, drop-cons, ◌-◌, IsUtf8, IsCharBoundary}
use Rattle.std.proofs.lemmas.Slice.{between_to_end}
use Rattle.std.proofs.lemmas.Str.{IsCharBoundary-after_ascii}
use Rattle.std.proofs.lemmas.Bool.Decides.{nat_tests}
use Rattle.std.proofs.lemmas.List.{drop_all, take_more}
use Rattle.mandatory_roles.specs.Cutting.{Cut, byte_before, closed_at}

same_byte : (b : ℕ) → eqb b b ≡ true
same_byte b = grind (arith, nat_tests)

other_byte : (b c : ℕ) → b ≢ c → eqb b c ≡ false
other_byte b c differ = grind (arith, nat_tests)

pub closed_plain : (b : ℕ) (bs : List ℕ) → b ≢ 96 → closed_at (b ∷ bs) ≡ byte_before b (closed_at bs)
unfolding closed_at
closed_plain b [] differ = rw (other_byte b 96 differ) refl
closed_plain b (c ∷ bs) differ = rw (other_byte b 96 differ) refl

pub closed_doubled : (bs : List ℕ) → closed_at (96 ∷ 96 ∷ bs) ≡ byte_before 96 (byte_before 96 (closed_at bs))
unfolding closed_at
closed_doubled bs = refl

-- the list does not begin with a backquote
abbrev pub BeginsOther : List ℕ → Type 0
BeginsOther [] = Unit {0}
BeginsOther (b ∷ bs) = b ≢ 96

pub closed_here : (bs : List ℕ) → BeginsOther bs → closed_at (96 ∷ bs) ≡ Some (record { front = 96 ∷ []; rest = bs })
unfolding closed_at
closed_here [] other = refl
closed_here (c ∷ bs) other = rw (other_byte c 96 other) refl

pub closed_nowhere : closed_at [] ≡ None
unfolding closed_at
closed_nowhere = refl

abbrev pub put_before : List ℕ → Option Cut → Option Cut
put_before front = option_map (λ cut. record { front = front ++ cut.front; rest = cut.rest })

put_byte : (front : List ℕ) (b : ℕ) (o : Option Cut) → put_before front (byte_before b o) ≡ put_before (front ++ b ∷ []) o
put_byte front b None = refl
put_byte front b (Some cut) = ap (λ l. Some (let c : Cut = record { front = l; rest = cut.rest } in c)) (sym (append_assoc front (b ∷ []) cut.front))

-- the first n bytes are passed
abbrev pub IsSoFar : List ℕ → ℕ → Type 0
IsSoFar text n = closed_at text ≡ put_before (take n text) (closed_at (drop n text))

pub so_far_start : (text : List ℕ) → IsSoFar text 0
so_far_start text = elim (closed_at text) as (λ o. o ≡ put_before [] o) [ None ↦ refl | Some cut ↦ refl ]

-- one more byte that closes nothing, whatever stands behind it
pass : (text : List ℕ) (n b : ℕ) (o : Option Cut) → n < length text → get_or text n 0 ≡ b → closed_at text ≡ put_before (take n text) (byte_before b o) → closed_at text ≡ put_before (take (n + 1) text) o
pass text n b o within here so_far =
    so_far ∙ put_byte (take n text) b o ∙ ap (λ l. put_before l o) (ap (λ k. take n text ++ k ∷ []) (sym here) ∙ sym (take_more text n 0 within))

pub so_far_plain : (text : List ℕ) (n : ℕ) → n < length text → get_or text n 0 ≢ 96 → IsSoFar text n → IsSoFar text (n + 1)
so_far_plain text n within differ so_far =
    let step : closed_at (drop n text) ≡ byte_before (get_or text n 0) (closed_at (drop (n + 1) text)) =
    ap closed_at (drop-cons text n 0 within) ∙ closed_plain (get_or text n 0) (drop (suc n) text) differ ∙ ap (λ k. byte_before (get_or text n 0) (closed_at (drop k text))) (sym (add-one n)) in
    pass text n (get_or text n 0) (closed_at (drop (n + 1) text)) within refl (so_far ∙ ap (put_before (take n text)) step)

drop_two : (text : List ℕ) (n : ℕ) → n + 1 < length text → get_or text n 0 ≡ 96 → get_or text (n + 1) 0 ≡ 96 → drop n text ≡ 96 ∷ 96 ∷ drop (n + 1 + 1) text
drop_two text n within first second =
    let one : drop n text ≡ get_or text n 0 ∷ drop (n + 1) text = drop-cons text n 0 (omega arith) ∙ ap (λ k. get_or text n 0 ∷ drop k text) (sym (add-one n)) in
    let two : drop (n + 1) text ≡ get_or text (n + 1) 0 ∷ drop (n + 1 + 1) text = drop-cons text (n + 1) 0 within ∙ ap (λ k. get_or text (n + 1) 0 ∷ drop k text) (sym (add-one (n + 1))) in
    cc

pub so_far_doubled : (text : List ℕ) (n : ℕ) → n + 1 < length text → get_or text n 0 ≡ 96 → get_or text (n + 1) 0 ≡ 96 → IsSoFar text n → IsSoFar text (n + 2)
so_far_doubled text n within first second so_far =
    let o : Option Cut = closed_at (drop (n + 1 + 1) text) in
    let step : closed_at (drop n text) ≡ byte_before 96 (byte_before 96 o) = ap closed_at (drop_two text n within first second) ∙ closed_doubled (drop (n + 1 + 1) text) in
    let one = pass text n 96 (byte_before 96 o) (omega arith) first (so_far ∙ ap (put_before (take n text)) step) in
    let two = pass text (n + 1) 96 o within second one in
    let same : n + 1 + 1 ≡ n + 2 = omega arith in
    subst (IsSoFar text) same two

no_second : (text : List ℕ) (n : ℕ) → (n < length text → get_or text n 0 ≢ 96) → BeginsOther (drop n text)
no_second [] n second = elim n as (λ k. BeginsOther (drop k [])) [ zero ↦ tt | suc k ↦ tt ]
no_second (b ∷ text) zero second = second (omega arith)
no_second (b ∷ text) (suc n) second = no_second text n (λ lt. second (omega arith))

pub so_far_closes : (text : List ℕ) (n : ℕ) → n < length text → get_or text n 0 ≡ 96 → (n + 1 < length text → get_or text (n + 1) 0 ≢ 96) → IsSoFar text n → Some (let c : Cut = record { front = take (n + 1) text; rest = drop (n + 1) text } in c) ≡ closed_at text
so_far_closes text n within first second so_far =
    let one : drop n text ≡ get_or text n 0 ∷ drop (n + 1) text = drop-cons text n 0 within ∙ ap (λ k. get_or text n 0 ∷ drop k text) (sym (add-one n)) in
    let step : closed_at (drop n text) ≡ Some (record { front = 96 ∷ []; rest = drop (n + 1) text }) =
    ap closed_at (one ∙ ap (λ k. k ∷ drop (n + 1) text) first) ∙ closed_here (drop (n + 1) text) (no_second text (n + 1) second) in
    let front : take (n + 1) text ≡ take n text ++ 96 ∷ [] = take_more text n 0 within ∙ ap (λ k. take n text ++ k ∷ []) first in
    ap (λ l. Some (let c : Cut = record { front = l; rest = drop (n + 1) text } in c)) front ∙ sym (so_far ∙ ap (put_before (take n text)) step)

pub so_far_open : (text : List ℕ) (n : ℕ) → length text ≤ n → IsSoFar text n → None ≡ closed_at text
so_far_open text n all so_far =
    sym (so_far ∙ ap (put_before (take n text)) (ap closed_at (drop_all n text all) ∙ closed_nowhere))

-- a text may be cut behind the backquote that closes what its first byte opens
past_first : (b : ℕ) (inside : List ℕ) (n : ℕ) → IsUtf8 (b ∷ inside) → 0 < n → n ≤ length inside → get_or inside (n - 1) 0 ≡ 96 → IsCharBoundary (b ∷ inside) (n + 1)
past_first b inside zero utf8 some within quote = absurd (omega arith)
past_first b inside (suc k) utf8 some within quote =
    let same : suc k - 1 ≡ k = omega arith in
    let here : get_or inside k 0 ≡ 96 = subst (λ j. get_or inside j 0 ≡ 96) same quote in
    let ascii : get_or (b ∷ inside) (suc k) 0 < 128 = omega (arith, here) in
    IsCharBoundary-after_ascii (b ∷ inside) (suc k) utf8 (omega arith) ascii

pub quoted_boundary : (text bytes : List ℕ) (n : ℕ) → IsUtf8 text → bytes ≡ text → 1 ≤ length bytes → 0 < n → n ≤ length (take (length bytes - 1) (drop 1 bytes)) → get_or (take (length bytes - 1) (drop 1 bytes)) (n - 1) 0 ≡ 96 → IsCharBoundary text (n + 1)
quoted_boundary text [] n utf8 same some low within quote = absurd (omega arith)
quoted_boundary text (b ∷ inside) n utf8 same some low within quote =
    let end = between_to_end (b ∷ inside) 1 (length (b ∷ inside)) (omega arith) in
    let size = subst (λ (l : List ℕ). n ≤ length l) end within in
    let here = subst (λ (l : List ℕ). get_or l (n - 1) 0 ≡ 96) end quote in
    subst (λ l. IsCharBoundary l (n + 1)) same (past_first b inside n (subst IsUtf8 (sym same) utf8) low size here)
