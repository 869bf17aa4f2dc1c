-- What the entries of an account say, one after the other.
use Rattle.std.proofs.Common.{◌≡◌, ◌≢◌, ◌∙◌, refl, sym, ap, ℕ, suc, zero, ◌+◌, ◌-◌, ◌<◌, ◌≤◌, Some, Bool, true, false, ◌==◌, ◌&&◌, ◌||◌, not, List, [], ◌∷◌, length, get_or, take, if◌then◌else◌, inl, inr, arith}
use Rattle.std.specs.List.{All, AllPairs, AllWithin, list_any, slice_get}
use Rattle.std.proofs.lemmas.Bool.{and_left, and_parts, cases_Bool, cases_lt, eq-eqb, eqb-true, ne_eqb}
use Rattle.std.proofs.lemmas.List.{take_all}
use Rattle.std.proofs.lemmas.List.Folds.{list_any_more, list_any_none}
use Rattle.std.proofs.lemmas.Option.{get_or_from_slice_get, slice_get_within}
use Rattle.std.proofs.Math.Bool.{and-false, or-false}
use Rattle.account_holdings.specs.Holdings.{same_holding}
use Rattle.account_holdings.specs.declared.holding.Holding.{Holding}
use Rattle.held_bits.specs.Bits.{are_none, no_bits}
use Rattle.held_bits.specs.HeldBits.{Entry, IsFirstOf, bits_at, is_entry}
use Rattle.held_bits.specs.declared.bits.Bits.{Bits}
use Rattle.holding_lists.specs.Additions.{Adds}
use Rattle.holding_lists.proofs.Additions.{adds_both, adds_none, adds_same}

inhabitant : {X : Type 0} (xs : List X) (i : ℕ) → i < length xs → X
inhabitant [] i below = absurd (omega arith)
inhabitant (x ∷ xs) i below = x

up_to : {X : Type 0} (p : X → Bool) (xs : List X) (low more : ℕ) → low + more ≤ length xs → AllWithin (λ x. p x ≡ false) xs low (low + more)
    → list_any p (take (low + more) xs) ≡ list_any p (take low xs)
up_to p xs low zero inside none =
    let is : low + 0 ≡ low = omega arith in
    ap (λ n. list_any p (take n xs)) is
up_to p xs low (suc more) inside none =
    let here : low + more < length xs = omega arith in
    let d = inhabitant xs (low + more) here in
    let is : low + suc more ≡ (low + more) + 1 = omega arith in
    ap (λ n. list_any p (take n xs)) is
    ∙ list_any_more p xs (low + more) d here
    ∙ ap (λ b. list_any p (take (low + more) xs) || b) (none (low + more) d (omega arith) (omega arith))
    ∙ or-false (list_any p (take (low + more) xs))
    ∙ up_to p xs low more (omega arith) (λ k x from below. none k x from (omega arith))

-- where nothing between two places passes, as much passes up to the one as up to the other
none_between : {X : Type 0} (p : X → Bool) (xs : List X) (low high : ℕ) → low ≤ high → high ≤ length xs → AllWithin (λ x. p x ≡ false) xs low high
    → list_any p (take high xs) ≡ list_any p (take low xs)
none_between p xs low high apart inside none =
    let is : low + (high - low) ≡ high = omega arith in
    sym (ap (λ n. list_any p (take n xs)) is) ∙ up_to p xs low (high - low) (omega arith) (λ k x from below. none k x from (omega arith))

-- ---- what is said up to a place

module _ {K : Type 0} (says : Holding → Entry K → Bool) where
  abbrev pub said : ℕ → List (Entry K) → Holding → Bool
  said account es h = list_any (λ e. (e.holder == account) && says h e) es

  abbrev speaks : ℕ → Holding → Entry K → Bool
  speaks account h e = (e.holder == account) && says h e

  silent : (account : ℕ) (h : Holding) (e : Entry K) → e.holder ≢ account → speaks account h e ≡ false
  silent account h e other = and_left (e.holder == account) (says h e) (ne_eqb e.holder account other)

  said_before : (es : List (Entry K)) (account place : ℕ) → IsFirstOf es account place → (h : Holding) → said account (take place es) h ≡ false
  said_before es account place first h =
      none_between (speaks account h) es 0 place (omega arith) first.inside
      (λ k e from below. let early : (get_or es k e).holder < account = first.before k e from below in silent account h (get_or es k e) (omega arith))

  said_after : (es : List (Entry K)) (account end place : ℕ) → IsFirstOf es (account + 1) end → end ≤ place → (h : Holding) → said account (take place es) h ≡ said account es h
  said_after es account end place is_end from h =
      elim (cases_lt place (length es)) [
        | inl inside ↦ sym (
            ap (list_any (speaks account h)) (sym (take_all (length es) es (omega arith)))
            ∙ none_between (speaks account h) es place (length es) (omega arith) (omega arith)
            (λ k e above below.
            let late : account + 1 ≤ (get_or es k e).holder = is_end.after k e (omega arith) below in silent account h (get_or es k e) (omega arith)))
        | inr past ↦ ap (list_any (speaks account h)) (take_all place es past)
      ]

  -- nothing is said before the first entry
  pub none_said : (es : List (Entry K)) (account place : ℕ) (list : List Holding) → IsFirstOf es account place → Adds list list (said account (take place es))
  none_said es account place list first = adds_none list (said account (take place es)) (said_before es account place first)

  -- an entry of the account that comes next
  pub entry_said : (es : List (Entry K)) (account place first end : ℕ) (holder : ℕ) (thing : K) (bits : Bits) (old list mid new : List Holding)
      → IsFirstOf es account first → IsFirstOf es (account + 1) end → first ≤ place → place < end
      → slice_get es place ≡ Some (record { holder = holder; thing = thing; bits = bits })
      → Adds old list (said account (take place es)) → Adds list mid (λ h. says h (record { holder = account; thing = thing; bits = bits })) → new ≡ mid
      → Adds old new (said account (take (place + 1) es))
  entry_said es account place first end holder thing bits old list mid new is_first is_end from below at before more is_new =
      let e : Entry K = record { holder = holder; thing = thing; bits = bits } in
      let inside : place < length es = slice_get_within es place e at in
      let is : get_or es place e ≡ e = get_or_from_slice_get es place e e at in
      let not_before : account ≤ (get_or es place e).holder = is_first.after place e from inside in
      let not_after : (get_or es place e).holder < account + 1 = is_end.before place e (omega arith) below in
      let same : holder ≡ account = omega (arith, ap (λ (x : Entry K). x.holder) is) in
      adds_same old new (λ h. said account (take place es) h || says h (record { holder = account; thing = thing; bits = bits })) (said account (take (place + 1) es))
      (λ h.
      sym (list_any_more (speaks account h) es place e inside
      ∙ ap (λ b. said account (take place es) h || b)
      (ap (speaks account h) is
      ∙ ap (λ b. b && says h e) (eq-eqb holder account same)
      ∙ ap (λ n. says h (record { holder = n; thing = thing; bits = bits })) same)))
      (adds_both old list new (said account (take place es)) (λ h. says h (record { holder = account; thing = thing; bits = bits })) before
      (λ h. ap (list_any (same_holding h)) is_new ∙ more h))

  -- and from the first entry of a later account on
  pub all_said : (es : List (Entry K)) (account end place : ℕ) (old list : List Holding) (test : Holding → Bool)
      → IsFirstOf es (account + 1) end → end ≤ place → ((h : Holding) → said account es h ≡ test h)
      → Adds old list (said account (take place es)) → Adds old list test
  all_said es account end place old list test is_end from alike before =
      adds_same old list (said account (take place es)) test (λ h. said_after es account end place is_end from h ∙ alike h) before

-- ---- what the entries of an account say is what it holds

pub any_same : {X : Type 0} (p q : X → Bool) → ((x : X) → p x ≡ q x) → (xs : List X) → list_any p xs ≡ list_any q xs
any_same p q alike [] = refl
any_same p q alike (x ∷ xs) = ap (λ b. b || list_any p xs) (alike x) ∙ ap (λ b. q x || b) (any_same p q alike xs)

pub any_false : {X : Type 0} (xs : List X) → list_any (λ x. false) xs ≡ false
any_false [] = refl
any_false (x ∷ xs) = any_false xs

pub any_guarded : {X : Type 0} (g : Bool) (p : X → Bool) (xs : List X) → list_any (λ x. g && p x) xs ≡ (g && list_any p xs)
any_guarded true p xs = refl
any_guarded false p xs = any_false xs

-- entries of the account that say nothing
pub says_nothing : {K : Type 0} (es : List (Entry K)) (account : ℕ) → list_any (λ e. (e.holder == account) && false) es ≡ false
says_nothing {K} es account = any_same (λ (e : Entry K). (e.holder == account) && false) (λ e. false) (λ e. and-false (e.holder == account)) es ∙ any_false es

-- a test of the holder of an entry is one of the holder that is sought
pub any_of_holder : {K : Type 0} (eq : K → K → Bool) (es : List (Entry K)) (account n : ℕ) (thing : K) (f : Bits → Bool)
    → list_any (λ e. (e.holder == account) && (is_entry eq n thing e && f e.bits)) es ≡ ((n == account) && list_any (λ e. is_entry eq n thing e && f e.bits) es)
any_of_holder {K} eq es account n thing f =
    any_same (λ (e : Entry K). (e.holder == account) && (is_entry eq n thing e && f e.bits)) (λ e. (n == account) && (is_entry eq n thing e && f e.bits)) moved es
    ∙ any_guarded (n == account) (λ e. is_entry eq n thing e && f e.bits) es
  where
    moved : (e : Entry K) → ((e.holder == account) && (is_entry eq n thing e && f e.bits)) ≡ ((n == account) && (is_entry eq n thing e && f e.bits))
    moved e =
        elim (cases_Bool (n == e.holder)) [
          | inl is ↦ ap (λ m. (m == account) && (is_entry eq n thing e && f e.bits)) (sym (eqb-true n e.holder is))
          | inr not_is ↦
              ap (λ b. (e.holder == account) && ((b && eq thing e.thing) && f e.bits)) not_is ∙ and-false (e.holder == account)
              ∙ sym (ap (λ b. (n == account) && ((b && eq thing e.thing) && f e.bits)) not_is ∙ and-false (n == account))
        ]

module _ {K : Type 0} (eq : K → K → Bool) (n : ℕ) (thing : K) where
  -- entries that are not empty say where something is held
  pub some_held : (es : List (Entry K)) → All (λ e. are_none e.bits ≡ false) es → list_any (λ e. is_entry eq n thing e && true) es ≡ not (are_none (bits_at eq es n thing))
  some_held [] some = refl
  some_held (e ∷ es) some =
      elim (cases_Bool (is_entry eq n thing e)) [
        | inl is ↦
            ap (λ b. (b && true) || list_any (λ x. is_entry eq n thing x && true) es) is
            ∙ sym (ap (λ b. not (are_none (if b then e.bits else bits_at eq es n thing))) is ∙ ap not (some 0 e (omega arith)))
        | inr not_is ↦
            ap (λ b. (b && true) || list_any (λ x. is_entry eq n thing x && true) es) not_is
            ∙ some_held es (λ k x below. some (suc k) x (omega arith))
            ∙ sym (ap (λ b. not (are_none (if b then e.bits else bits_at eq es n thing))) not_is)
      ]

  -- entries that stand once each say what is held
  module _ (equal : (k l : K) → eq k l ≡ true → k ≡ l) (f : Bits → Bool) (nothing : f no_bits ≡ false) where
    pub bits_said : (es : List (Entry K)) → AllPairs (λ one other. is_entry eq one.holder one.thing other ≡ false) es
        → list_any (λ e. is_entry eq n thing e && f e.bits) es ≡ f (bits_at eq es n thing)
    bits_said [] once = sym nothing
    bits_said (e ∷ es) once =
        elim (cases_Bool (is_entry eq n thing e)) [
          | inl is ↦
              ap (λ b. (b && f e.bits) || list_any (λ x. is_entry eq n thing x && f x.bits) es) is
              ∙ ap (λ b. f e.bits || b) (no_other is) ∙ or-false (f e.bits)
              ∙ sym (ap (λ b. f (if b then e.bits else bits_at eq es n thing)) is)
          | inr not_is ↦
              ap (λ b. (b && f e.bits) || list_any (λ x. is_entry eq n thing x && f x.bits) es) not_is
              ∙ bits_said es (λ i j d before inside. once (suc i) (suc j) d (omega arith) (omega arith))
              ∙ sym (ap (λ b. f (if b then e.bits else bits_at eq es n thing)) not_is)
        ]
      where
        no_other : is_entry eq n thing e ≡ true → list_any (λ x. is_entry eq n thing x && f x.bits) es ≡ false
        no_other is =
            let parts = and_parts (n == e.holder) (eq thing e.thing) is in
            list_any_none (λ x. is_entry eq n thing x && f x.bits) es
            (λ k d below.
            let apart : is_entry eq e.holder e.thing (get_or es k d) ≡ false = once zero (suc k) d (omega arith) (omega arith) in
            and_left (is_entry eq n thing (get_or es k d)) (f (get_or es k d).bits)
            (ap (λ m. is_entry eq m thing (get_or es k d)) (eqb-true n e.holder parts.0)
            ∙ ap (λ t. is_entry eq e.holder t (get_or es k d)) (equal thing e.thing parts.1) ∙ apart))
