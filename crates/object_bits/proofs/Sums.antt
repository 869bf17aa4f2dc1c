-- Entries that say the same of each pair, each pair once, add up to the same.
use Rattle.std.proofs.Common.{◌≡◌, ◌∙◌, refl, sym, ap, subst, ℕ, suc, Bool, true, false, ◌+◌, ◌==◌, ◌&&◌, List, [], ◌∷◌, sum_by, if◌then◌else◌, inl, inr, arith}
use Rattle.std.specs.Bool.{⊤}
use Rattle.std.proofs.lemmas.Bool.{cases_Bool, eq-eqb, eqb-true, and_from, and_parts, true≢false}
use Rattle.std.proofs.lemmas.List.Sums.{sum_by-cons}
use Rattle.held_bits.specs.declared.bits.Bits.{Bits}
use Rattle.held_bits.specs.Bits.{no_bits, are_none}
use Rattle.held_bits.specs.HeldBits.{Entry, IsSound, SetsBits, bits_at, is_entry}
use Rattle.held_bits.proofs.Readings.{bits_at_none}
use Rattle.object_bits.specs.Kept.{uses_with}

module _ {K : Type 0} (eq : K → K → Bool) (exact : (a b : K) → eq a b ≡ true → a ≡ b) (itself : (a : K) → eq a a ≡ true) (weight : K → ℕ) where
  abbrev total : List (Entry K) → ℕ
  total es = sum_by (λ e. weight e.thing) es

  -- each pair has one entry, which is not empty
  abbrev Once : List (Entry K) → Type 0
  Once [] = ⊤
  Once (e ∷ es) = (are_none e.bits ≡ false) × ((bits_at eq es e.holder e.thing ≡ no_bits) × Once es)

  once_from : (es : List (Entry K)) → IsSound eq es → Once es
  once_from [] sound = tt
  once_from (e ∷ es) sound = (
    sound.some 0 e (omega arith),
    (
      bits_at_none eq es e.holder e.thing (λ k d below. sound.once 0 (suc k) d (omega arith) (omega arith)),
      once_from es
          (record {
            once = λ i j d less below. sound.once (suc i) (suc j) d (omega arith) (omega arith);
            some = λ k d below. sound.some (suc k) d (omega arith);
            ordered = λ i j d less below. sound.ordered (suc i) (suc j) d (omega arith) (omega arith);
            within = λ k d below. sound.within (suc k) d (omega arith);
          }),
    ),
  )

  -- the entries of all other pairs
  abbrev without : ℕ → K → List (Entry K) → List (Entry K)
  without h k [] = []
  without h k (e ∷ es) = if is_entry eq h k e then without h k es else e ∷ without h k es

  its_own : (h : ℕ) (k : K) → ((h == h) && eq k k) ≡ true
  its_own h k = and_from (h == h) (eq k k) (eq-eqb h h refl) (itself k)

  -- the first entry of a pair says what it holds, and that of another pair says nothing
  bits_first : (e : Entry K) (es : List (Entry K)) (h : ℕ) (k : K) → is_entry eq h k e ≡ true → bits_at eq (e ∷ es) h k ≡ e.bits
  bits_first e es h k is = ap (λ (b : Bool). if b then e.bits else bits_at eq es h k) is

  bits_rest : (e : Entry K) (es : List (Entry K)) (h : ℕ) (k : K) → is_entry eq h k e ≡ false → bits_at eq (e ∷ es) h k ≡ bits_at eq es h k
  bits_rest e es h k not_is = ap (λ (b : Bool). if b then e.bits else bits_at eq es h k) not_is

  without_first : (e : Entry K) (es : List (Entry K)) (h : ℕ) (k : K) → is_entry eq h k e ≡ true → without h k (e ∷ es) ≡ without h k es
  without_first e es h k is = ap (λ (b : Bool). if b then without h k es else e ∷ without h k es) is

  without_rest : (e : Entry K) (es : List (Entry K)) (h : ℕ) (k : K) → is_entry eq h k e ≡ false → without h k (e ∷ es) ≡ e ∷ without h k es
  without_rest e es h k not_is = ap (λ (b : Bool). if b then without h k es else e ∷ without h k es) not_is

  -- two pairs that are one
  one_pair : (h g : ℕ) (k x : K) → ((h == g) && eq k x) ≡ true → (h ≡ g) × (k ≡ x)
  one_pair h g k x same = let parts = and_parts (h == g) (eq k x) same in (eqb-true h g parts.0, exact k x parts.1)

  bits_same : (es : List (Entry K)) (h g : ℕ) (k x : K) → ((h == g) && eq k x) ≡ true → bits_at eq es h k ≡ bits_at eq es g x
  bits_same es h g k x same =
      ap (λ (y : ℕ). bits_at eq es y k) (one_pair h g k x same).0 ∙ ap (λ (y : K). bits_at eq es g y) (one_pair h g k x same).1

  bits_gone : (es : List (Entry K)) (h : ℕ) (k : K) → bits_at eq (without h k es) h k ≡ no_bits
  bits_gone [] h k = refl
  bits_gone (e ∷ es) h k =
      elim (cases_Bool (is_entry eq h k e)) [
        | inl is ↦ ap (λ (l : List (Entry K)). bits_at eq l h k) (without_first e es h k is) ∙ bits_gone es h k
        | inr not_is ↦
            ap (λ (l : List (Entry K)). bits_at eq l h k) (without_rest e es h k not_is)
            ∙ bits_rest e (without h k es) h k not_is ∙ bits_gone es h k
      ]

  bits_stay : (es : List (Entry K)) (h g : ℕ) (k x : K) → ((g == h) && eq x k) ≡ false → bits_at eq (without h k es) g x ≡ bits_at eq es g x
  bits_stay [] h g k x apart = refl
  bits_stay (e ∷ es) h g k x apart =
      elim (cases_Bool (is_entry eq h k e)) [
        | inl is ↦
            let here = one_pair h e.holder k e.thing is in
            ap (λ (l : List (Entry K)). bits_at eq l g x) (without_first e es h k is)
            ∙ bits_stay es h g k x apart
            ∙ sym (bits_rest e es g x
            (ap (λ (y : ℕ). (g == y) && eq x e.thing) (sym here.0) ∙ ap (λ (y : K). (g == h) && eq x y) (sym here.1) ∙ apart))
        | inr not_is ↦
            ap (λ (l : List (Entry K)). bits_at eq l g x) (without_rest e es h k not_is)
            ∙ ap (λ (b : Bits). if is_entry eq g x e then e.bits else b) (bits_stay es h g k x apart)
      ]

  none_stays : (es : List (Entry K)) (h g : ℕ) (k x : K) → bits_at eq es g x ≡ no_bits → bits_at eq (without h k es) g x ≡ no_bits
  none_stays es h g k x none =
      elim (cases_Bool ((g == h) && eq x k)) [
        | inl same ↦ bits_same (without h k es) g h x k same ∙ bits_gone es h k
        | inr apart ↦ bits_stay es h g k x apart ∙ none
      ]

  once_without : (es : List (Entry K)) (h : ℕ) (k : K) → Once es → Once (without h k es)
  once_without [] h k once = tt
  once_without (e ∷ es) h k once =
      elim (cases_Bool (is_entry eq h k e)) [
        | inl is ↦ subst Once (sym (without_first e es h k is)) (once_without es h k once.1.1)
        | inr not_is ↦ subst Once (sym (without_rest e es h k not_is))
            (once.0, (none_stays es h e.holder k e.thing once.1.0, once_without es h k once.1.1))
      ]

  some_uses : (bits : Bits) (uses : ℕ) → are_none bits ≡ false → uses_with bits uses ≡ uses
  some_uses bits uses some = ap (λ (b : Bool). if b then 0 else uses) some

  -- what one pair adds to the total of all others
  total_without : (es : List (Entry K)) (h : ℕ) (k : K) → Once es → total es ≡ uses_with (bits_at eq es h k) (weight k) + total (without h k es)
  total_without [] h k once = refl
  total_without (e ∷ es) h k once =
      elim (cases_Bool (is_entry eq h k e)) [
        | inl is ↦
            let none : bits_at eq es h k ≡ no_bits = bits_same es h e.holder k e.thing is ∙ once.1.0 in
            let uses : uses_with (bits_at eq (e ∷ es) h k) (weight k) ≡ weight k =
            ap (λ (b : Bits). uses_with b (weight k)) (bits_first e es h k is) ∙ some_uses e.bits (weight k) once.0 in
            let no_uses : uses_with (bits_at eq es h k) (weight k) ≡ 0 = ap (λ (b : Bits). uses_with b (weight k)) none in
            omega (
              arith,
              sum_by-cons (λ x. weight x.thing) e es,
              total_without es h k once.1.1,
              uses,
              no_uses,
              ap weight (one_pair h e.holder k e.thing is).1,
              ap total (without_first e es h k is),
            )
        | inr not_is ↦
            omega (
              arith,
              sum_by-cons (λ x. weight x.thing) e es,
              sum_by-cons (λ x. weight x.thing) e (without h k es),
              total_without es h k once.1.1,
              ap (λ (b : Bits). uses_with b (weight k)) (bits_rest e es h k not_is),
              ap total (without_rest e es h k not_is),
            )
      ]

  -- entries that say the same add up to the same
  same_total : (xs ys : List (Entry K)) → Once xs → Once ys → ((h : ℕ) (k : K) → bits_at eq xs h k ≡ bits_at eq ys h k) → total xs ≡ total ys
  same_total [] [] once also agree = refl
  same_total [] (y ∷ ys) once also agree =
      absurd (true≢false (ap are_none (agree y.holder y.thing ∙ bits_first y ys y.holder y.thing (its_own y.holder y.thing)) ∙ also.0))
  same_total (x ∷ xs) ys once also agree =
      let first : x.bits ≡ bits_at eq ys x.holder x.thing =
      sym (bits_first x xs x.holder x.thing (its_own x.holder x.thing)) ∙ agree x.holder x.thing in
      let rest = same_total xs (without x.holder x.thing ys) once.1.1 (once_without ys x.holder x.thing also) (agree_rest once.1.0 agree) in
      omega (
        arith,
        sum_by-cons (λ e. weight e.thing) x xs,
        total_without ys x.holder x.thing also,
        rest,
        sym (ap (λ (b : Bits). uses_with b (weight x.thing)) first) ∙ some_uses x.bits (weight x.thing) once.0,
      )
    where
      agree_rest : bits_at eq xs x.holder x.thing ≡ no_bits → ((h : ℕ) (k : K) → bits_at eq (x ∷ xs) h k ≡ bits_at eq ys h k) →
          (h : ℕ) (k : K) → bits_at eq xs h k ≡ bits_at eq (without x.holder x.thing ys) h k
      agree_rest none agree h k =
          elim (cases_Bool ((h == x.holder) && eq k x.thing)) [
            | inl same ↦
                bits_same xs h x.holder k x.thing same ∙ none
                ∙ sym (bits_same (without x.holder x.thing ys) h x.holder k x.thing same ∙ bits_gone ys x.holder x.thing)
            | inr apart ↦
                sym (bits_rest x xs h k apart) ∙ agree h k ∙ sym (bits_stay ys x.holder h x.thing k apart)
          ]

  -- where one pair is set, the total follows
  pub sets_total : (old new : List (Entry K)) (holder : ℕ) (thing : K) (bits : Bits) → IsSound eq old → IsSound eq new → SetsBits eq old new holder thing bits →
      total new + uses_with (bits_at eq old holder thing) (weight thing) ≡ total old + uses_with bits (weight thing)
  sets_total old new holder thing bits sound also sets =
      let others = same_total (without holder thing new) (without holder thing old)
      (once_without new holder thing (once_from new also)) (once_without old holder thing (once_from old sound)) agree in
      omega (
        arith,
        total_without new holder thing (once_from new also),
        total_without old holder thing (once_from old sound),
        others,
        ap (λ (b : Bits). uses_with b (weight thing)) here,
      )
    where
      here : bits_at eq new holder thing ≡ bits
      here = sets holder thing ∙ ap (λ (b : Bool). if b then bits else bits_at eq old holder thing) (its_own holder thing)

      agree : (h : ℕ) (k : K) → bits_at eq (without holder thing new) h k ≡ bits_at eq (without holder thing old) h k
      agree h k =
          elim (cases_Bool ((h == holder) && eq k thing)) [
            | inl same ↦
                bits_same (without holder thing new) h holder k thing same ∙ bits_gone new holder thing
                ∙ sym (bits_same (without holder thing old) h holder k thing same ∙ bits_gone old holder thing)
            | inr apart ↦
                bits_stay new holder h thing k apart
                ∙ sets h k ∙ ap (λ (b : Bool). if b then bits else bits_at eq old h k) apart
                ∙ sym (bits_stay old holder h thing k apart)
          ]
