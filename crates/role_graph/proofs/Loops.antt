-- Paths joined, turned round, and over edges that come and go.
use Rattle.std.proofs.Common.{◌≡◌, ◌∙◌, sym, subst, ℕ, true, ◌==◌, ◌||◌, ◌&&◌, ◌⊎◌, inl, inr}
use Rattle.std.proofs.lemmas.Bool.{or_cases, and_parts, eqb-true}
use Rattle.role_graph.specs.Paths.{Granted, Reaches, IsFreeOfLoops}
use Rattle.role_graph.specs.Paths.Reaches.{Here, Onward}

-- two paths, one after the other
pub joined : (granted : Granted) (a b c : ℕ) → Reaches granted a b → Reaches granted b c → Reaches granted a c
joined granted a b c first Here = first
joined granted a b c first (Onward holder role second edge) = Onward holder role (joined granted a b holder first second) edge

-- a path against the edges is a path along them, the other way
pub turned : (granted : Granted) (a b : ℕ) → Reaches (λ role holder. granted holder role) a b → Reaches granted b a
turned granted a b Here = Here
turned granted a b (Onward holder role path edge) =
    joined granted role holder a (Onward role holder Here edge) (turned granted a holder path)

-- a path stays where edges are added
pub path_kept : (fewer more : Granted) → ((role holder : ℕ) → fewer role holder ≡ true → more role holder ≡ true) →
    (a b : ℕ) → Reaches fewer a b → Reaches more a b
path_kept fewer more keeps a b Here = Here
path_kept fewer more keeps a b (Onward holder role path edge) =
    Onward holder role (path_kept fewer more keeps a holder path) (keeps role holder edge)

-- so fewer edges make no loop
pub still_free : (fewer more : Granted) → ((role holder : ℕ) → fewer role holder ≡ true → more role holder ≡ true) →
    IsFreeOfLoops more → IsFreeOfLoops fewer
still_free fewer more keeps free = λ role holder edge path. free role holder (keeps role holder edge) (path_kept fewer more keeps role holder path)

module _ (before after : Granted) (role to : ℕ)
    (after_is : (r h : ℕ) → after r h ≡ (before r h || (to == h && role == r))) where
  pub data AddedEdge (r h : ℕ) : Type 0 where
    Old : before r h ≡ true → AddedEdge r h
    New : role ≡ r → to ≡ h → AddedEdge r h

  which_edge : (r h : ℕ) → after r h ≡ true → AddedEdge r h
  which_edge r h edge =
      elim (or_cases (before r h) (to == h && role == r) (sym (after_is r h) ∙ edge)) [
        | inl old ↦ Old old
        | inr new ↦ New (eqb-true role r ((and_parts (to == h) (role == r) new).1)) (eqb-true to h ((and_parts (to == h) (role == r) new).0))
      ]

  onward : (a b holder : ℕ) → AddedEdge b holder → Reaches before a holder ⊎ (Reaches before a to × Reaches before role holder) →
      Reaches before a b ⊎ (Reaches before a to × Reaches before role b)
  onward a b holder (Old old) (inl first) = inl (Onward holder b first old)
  onward a b holder (Old old) (inr (first, second)) = inr (first, Onward holder b second old)
  onward a b holder (New same_role same_holder) (inl first) =
      inr (subst (λ (h : ℕ). Reaches before a h) (sym same_holder) first, subst (λ (r : ℕ). Reaches before role r) same_role Here)
  onward a b holder (New same_role same_holder) (inr (first, second)) =
      inr (first, subst (λ (r : ℕ). Reaches before role r) same_role Here)

  -- a path with the new edge is one without it, or leads to its holder and on from its role
  through : (a b : ℕ) → Reaches after a b → Reaches before a b ⊎ (Reaches before a to × Reaches before role b)
  through a b Here = inl Here
  through a b (Onward holder other path edge) = onward a other holder (which_edge other holder edge) (through a holder path)

  -- an edge whose role does not reach its holder makes no loop
  pub free_after : IsFreeOfLoops before → (Reaches before role to → ⊥) → IsFreeOfLoops after
  free_after free apart = λ r h edge path. closed r h (which_edge r h edge) (through r h path)
    where
      closed : (r h : ℕ) → AddedEdge r h → Reaches before r h ⊎ (Reaches before r to × Reaches before role h) → ⊥
      closed r h (Old old) (inl back) = free r h old back
      closed r h (Old old) (inr (first, second)) = apart (joined before role r to (Onward h r second old) first)
      closed r h (New same_role same_holder) (inl back) =
          apart (subst (λ (x : ℕ). Reaches before x to) (sym same_role) (subst (λ (y : ℕ). Reaches before r y) (sym same_holder) back))
      closed r h (New same_role same_holder) (inr (first, second)) = apart (subst (λ (x : ℕ). Reaches before x to) (sym same_role) first)
