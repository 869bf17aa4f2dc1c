-- The exchange that adds a publication keeps the rule of the history.
use Rattle.std.proofs.Common.{◌≡◌, ℕ, ◌+◌, ◌<◌, ◌==◌, Bool, true, false, List, [], ◌∷◌, ◌++◌, length, refl, ap, sym, subst, arith, inl, length-append, Option}
use Rattle.std.proofs.lemmas.List.{append-nil}
use Rattle.std.proofs.lemmas.Bool.Decides.{nat_tests}
use mathlib.Core.List.{IsPrefix}
use prog.Atomic.{either}
use Rattle.logbook.specs.Pages.{Cell, cell, keeps, no_nib, step, Moves, Goes}
use Rattle.published_copies.specs.declared.stage.Stage.{Stage}
use Rattle.published_copies.specs.Stages.{GoesOn, last_of, IsChain}
use Rattle.published_copies.specs.History.{IsKept, Adds}
use Rattle.published_copies.proofs.Beginnings.{prefix_whole}
use Rattle.published_copies.proofs.Chains.{chain_added}

module _ {E : Type 0} where
  abbrev shown : List (Stage E) → List (Stage E)
  shown log = []

  abbrev moved : List (Stage E) → List (Stage E) → ℕ → Type 0
  moved xs ys n = Unit {0}

  abbrev Told : List (Stage E) → Stage E → ℕ → Option ℕ → List Cell → List (Stage E) → Type 0
  Told v s old o cs log = Goes IsKept shown moved 0 (v, (no_nib, o)) (λ n. either (n == old) (old + 1) n) (Adds (step 0 old (old + 1) s) (v, (no_nib, o))) cs log

  adds_goes : (log v : List (Stage E)) (s : Stage E) (old : ℕ) (o : Option ℕ) → length v ≡ old → GoesOn (last_of v) s → IsChain log → IsPrefix v log
      → (b : Bool) → (length log == old) ≡ b → Told v s old o ((length log, true) ∷ (0, true) ∷ []) log
  adds_goes log v s old o len on chain pre true is =
      let here : length log ≡ old = grind (arith, nat_tests) in
      let same : v ≡ log = prefix_whole v log pre (omega arith) in
      let chain' : IsChain (log ++ s ∷ []) = chain_added log s chain (subst (λ (l : List (Stage E)). GoesOn (last_of l) s) same on) in
      let n : either (length log == old) (old + 1) (length log) ≡ length (log ++ s ∷ []) = rw is (omega (arith, length-append log (s ∷ []))) in (
        keeps,
        s ∷ [],
        o,
        tt,
        record { words = ap (λ (k : ℕ). (k, true) ∷ (0, true) ∷ []) n; chain = chain' },
        inl (refl, refl),
        rw is (ap (λ (w : List (Stage E)). w ++ s ∷ []) (sym same)),
      )
  adds_goes log v s old o len on chain pre false is =
      let all : log ++ [] ≡ log = append-nil log in
      let chain' : IsChain (log ++ []) = subst IsChain (sym all) chain in
      let n : either (length log == old) (old + 1) (length log) ≡ length (log ++ []) = rw is (ap length (sym all)) in (
        keeps,
        [],
        o,
        tt,
        record { words = ap (λ (k : ℕ). (k, true) ∷ (0, true) ∷ []) n; chain = chain' },
        inl (refl, refl),
        rw is tt,
      )

  -- whatever the history is, the exchange adds the publication to all that was seen, or finds another length
  pub adds_moves : (v : List (Stage E)) (s : Stage E) (old : ℕ) (o : Option ℕ) → length v ≡ old → GoesOn (last_of v) s
      → Moves IsKept shown moved 0 (v, (no_nib, o)) (λ n. either (n == old) (old + 1) n) (Adds (step 0 old (old + 1) s) (v, (no_nib, o)))
  adds_moves v s old o len on cs log kept pre away =
      let P : List Cell → Type 0 = λ c. (0 < length c) × ((cell c 0).1 ≡ true) × Told v s old o c log in
      subst P (sym kept.words) (omega arith, refl, adds_goes log v s old o len on kept.chain pre (length log == old) refl)
