-- Publications that go on from each other.
use Rattle.std.proofs.Common.{◌≡◌, ℕ, ◌-◌, ◌+◌, ◌<◌, ◌≤◌, false, List, [], ◌∷◌, ◌++◌, length, refl, ap, sym, ◌∙◌, subst, arith, length-append}
use Rattle.std.proofs.Math.ListN.{get_or-append}
use Rattle.std.proofs.Math.Seq.{get_or-append_seam}
use Rattle.std.proofs.lemmas.Bool.{false≢true}
use mathlib.Core.List.{IsPrefix}
use mathlib.Core.Logic.{dite}
use native.Mathlib.Decide.{dec_lt}
use Rattle.published_copies.specs.declared.stage.Stage.{Stage}
use Rattle.published_copies.specs.Stages.{nothing, with_entry, with_end, GoesOn, stage_at, last_of, IsChain}
use Rattle.published_copies.proofs.Beginnings.{prefix_self, prefix_trans, prefix_length, prefix_at}

module _ {E : Type 0} where
  pub goes_self : (s : Stage E) → GoesOn s s
  goes_self s = (prefix_self s.entries, λ _. refl)

  pub goes_nothing : (s : Stage E) → GoesOn nothing s
  goes_nothing s = ((s.entries, refl), λ e. absurd (false≢true e))

  pub goes_trans : (s t u : Stage E) → GoesOn s t → GoesOn t u → GoesOn s u
  goes_trans s t u a b = (
    prefix_trans s.entries t.entries u.entries a.0 b.0,
    λ e. let same : t ≡ s = a.1 e in b.1 (ap (λ (x : Stage E). x.ended) same ∙ e) ∙ same,
  )

  pub goes_entry : (s t : Stage E) (entry : E) → t.ended ≡ false → GoesOn s t → GoesOn s (with_entry t entry)
  goes_entry s t entry open_yet a = (
    prefix_trans s.entries t.entries (t.entries ++ entry ∷ []) a.0 (entry ∷ [], refl),
    λ e. absurd (false≢true (sym open_yet ∙ (ap (λ (x : Stage E). x.ended) (a.1 e) ∙ e))),
  )

  pub goes_end : (s t : Stage E) → t.ended ≡ false → GoesOn s t → GoesOn s (with_end t)
  goes_end s t open_yet a = (a.0, λ e. absurd (false≢true (sym open_yet ∙ (ap (λ (x : Stage E). x.ended) (a.1 e) ∙ e))))

  pub last_added : (log : List (Stage E)) (s : Stage E) → last_of (log ++ s ∷ []) ≡ s
  last_added log s = let n : length (log ++ s ∷ []) - 1 ≡ length log = omega (arith, length-append log (s ∷ [])) in
      ap (λ (k : ℕ). stage_at (log ++ s ∷ []) k) n ∙ get_or-append_seam log s [] nothing

  -- the last publication goes on from each
  pub last_goes : (log : List (Stage E)) (i : ℕ) → IsChain log → i < length log → GoesOn (stage_at log i) (last_of log)
  last_goes log i chain h = chain i (length log - 1) (omega arith) (omega arith)

  chain_one : (log : List (Stage E)) (s : Stage E) (i : ℕ) → IsChain log → GoesOn (last_of log) s → i < length log + 1 → GoesOn (stage_at (log ++ s ∷ []) i) s
  chain_one log s i chain on h = dite (dec_lt i (length log))
      (λ (l : i < length log). subst (λ (x : Stage E). GoesOn x s) (sym (get_or-append log (s ∷ []) nothing i l)) (goes_trans (stage_at log i) (last_of log) s (last_goes log i chain l) on))
      (λ (n : ¬ (i < length log)). let e : i ≡ length log = omega arith in
      subst (λ (x : Stage E). GoesOn x s) (sym (ap (λ (k : ℕ). stage_at (log ++ s ∷ []) k) e ∙ get_or-append_seam log s [] nothing)) (goes_self s))

  pub chain_added : (log : List (Stage E)) (s : Stage E) → IsChain log → GoesOn (last_of log) s → IsChain (log ++ s ∷ [])
  chain_added log s chain on i j le h = let size = length-append log (s ∷ []) in dite (dec_lt j (length log))
      (λ (l : j < length log). subst (λ (x : Stage E). GoesOn x (stage_at (log ++ s ∷ []) j)) (sym (get_or-append log (s ∷ []) nothing i (omega arith)))
      (subst (λ (x : Stage E). GoesOn (stage_at log i) x) (sym (get_or-append log (s ∷ []) nothing j l)) (chain i j le l)))
      (λ (n : ¬ (j < length log)). let e : j ≡ length log = omega arith in
      subst (λ (x : Stage E). GoesOn (stage_at (log ++ s ∷ []) i) x) (sym (ap (λ (k : ℕ). stage_at (log ++ s ∷ []) k) e ∙ get_or-append_seam log s [] nothing)) (chain_one log s i chain on (omega arith)))

  last_within : (xs log : List (Stage E)) → IsPrefix xs log → 0 < length xs → last_of xs ≡ stage_at log (length xs - 1)
  last_within xs log p some = prefix_at xs log (length xs - 1) nothing p (omega arith)

  last_none : (xs : List (Stage E)) → length xs ≡ 0 → last_of xs ≡ nothing
  last_none [] e = refl
  last_none (x ∷ xs) e = absurd (omega arith)

  -- of two beginnings of one history the longer one's last goes on from the shorter one's
  pub chain_meet : (xs ys log : List (Stage E)) → IsPrefix xs log → IsPrefix ys log → length xs ≤ length ys → IsChain log → GoesOn (last_of xs) (last_of ys)
  chain_meet xs ys log p q le chain = dite (dec_lt 0 (length xs))
      (λ (some : 0 < length xs). let short = prefix_length ys log q in
      subst (λ (x : Stage E). GoesOn x (last_of ys)) (sym (last_within xs log p some))
      (subst (λ (x : Stage E). GoesOn (stage_at log (length xs - 1)) x) (sym (last_within ys log q (omega arith))) (chain (length xs - 1) (length ys - 1) (omega arith) (omega arith))))
      (λ (none : ¬ (0 < length xs)). subst (λ (x : Stage E). GoesOn x (last_of ys)) (sym (last_none xs (omega arith))) (goes_nothing (last_of ys)))
