-- Edges and their admin options.
use Rattle.std.proofs.Common.{◌≡◌, ◌∙◌, refl, sym, ap, ℕ, ◌==◌, ◌||◌, ◌&&◌, Bool, true, false, not, Option, None, Some, List, [], ◌∷◌, IfSome, is_some, IsTrue}
use Rattle.std.specs.List.{list_any}
use Rattle.std.specs.Option.{unwrap_or}
use Rattle.std.proofs.lemmas.Bool.{true≢false, or_parts, and_parts, eq-eqb, eqb-true}
use Rattle.role_graph.specs.Edges.{Edges, granted, is_admin_link, is_link, linked, with_admin}
use Rattle.role_graph.specs.Paths.{Granted, Here, IsFreeOfLoops, Onward, Reaches, all_reached}
use Rattle.role_graph.specs.declared.graph.Added.{Added}
use Rattle.role_graph.specs.declared.graph.Added.TheVariants as added
use Rattle.role_graph.specs.declared.link.Link.{Link}

-- without an edge there is no admin option
none_with_admin : (from to : ℕ) (links : List Link) → linked links from to ≡ false → list_any (is_admin_link from to) links ≡ false
none_with_admin from to [] none = refl
none_with_admin from to (link ∷ links) none =
    let parts = or_parts (is_link from to link) (linked links from to) none in
    rw (parts.0, none_with_admin from to links parts.1) refl

pub no_admin : (edges : Edges) (role to : ℕ) → granted edges role to ≡ false → with_admin edges role to ≡ false
no_admin edges role to none = none_with_admin to role edges.links none

-- what a look at an edge finds
pub admin_read : (edges : Edges) (role to : ℕ) (found : Option Bool) → is_some found ≡ granted edges role to → IfSome found (λ admin. admin ≡ with_admin edges role to)
    → unwrap_or found false ≡ with_admin edges role to
admin_read edges role to None stands admin = sym (no_admin edges role to (sym stands))
admin_read edges role to (Some x) stands admin = admin

both_tests : (t : Bool) → (t || true) ≡ true
both_tests true = refl
both_tests false = refl

-- who may grant a role holds it
pub granted_with_admin : (edges : Edges) (role to : ℕ) → with_admin edges role to ≡ true → granted edges role to ≡ true
granted_with_admin edges role to option = by (granted edges role to) refl
  where
    by : (t : Bool) → granted edges role to ≡ t → granted edges role to ≡ true
    by true stands = stands
    by false stands = absurd (true≢false (sym option ∙ no_admin edges role to stands))

-- fewer edges lead no further
pub reaches_more : (one other : Granted) → ((r h : ℕ) → IsTrue (one r h) → IsTrue (other r h)) → (node role : ℕ) → Reaches one node role → Reaches other node role
reaches_more one other more node role path =
    all_reached one node (Reaches other node) Here (λ holder next way edge. Onward holder next way (more next holder edge)) role path

module _ (old mid : Edges) (role to : ℕ) (stands : granted old role to ≡ true)
    (less : (r h : ℕ) → granted mid r h ≡ (granted old r h && not ((r == role) && (h == to)))) where
  still_there : (t : Bool) (x : Bool) → (x && not t) ≡ true → x ≡ true
  still_there true true h = refl
  still_there true false h = cc
  still_there false true h = refl
  still_there false false h = cc

  -- without the edge there is no loop
  pub no_path : IsFreeOfLoops (granted old) → Reaches (granted mid) role to → ⊥
  no_path free path =
      free role to stands
      (reaches_more (granted mid) (granted old) (λ r h edge. still_there ((r == role) && (h == to)) (granted old r h) (sym (less r h) ∙ edge)) role to path)

  pub gone : granted mid role to ≡ false
  gone = less role to ∙ rw (eq-eqb role role refl, eq-eqb to to refl) (never (granted old role to))
    where
      never : (x : Bool) → (x && false) ≡ false
      never true = refl
      never false = refl

  -- the edge is granted again
  pub edge_again : (new : Edges) → ((r h : ℕ) → granted new r h ≡ (granted mid r h || ((r == role) && (h == to)))) → (r h : ℕ) → granted new r h ≡ granted old r h
  edge_again new more r h = more r h ∙ ap (λ x. x || ((r == role) && (h == to))) (less r h) ∙ by ((r == role) && (h == to)) refl (granted old r h) refl
    where
      by : (t : Bool) → ((r == role) && (h == to)) ≡ t → (x : Bool) → granted old r h ≡ x → ((x && not t) || t) ≡ x
      by true same true known = refl
      by true same false known =
          let parts = and_parts (r == role) (h == to) same in
          absurd (true≢false (sym stands ∙ ap (λ k. granted old k to) (sym (eqb-true r role parts.0)) ∙ ap (λ k. granted old r k) (sym (eqb-true h to parts.1)) ∙ known))
      by false other true known = refl
      by false other false known = refl

-- and its option stays away
pub option_gone : (old mid new : Edges) (role to : ℕ) → ((r h : ℕ) → with_admin mid r h ≡ (with_admin old r h && not ((r == role) && (h == to))))
    → ((r h : ℕ) → with_admin new r h ≡ (with_admin mid r h || ((r == role) && (h == to) && false)))
    → (r h : ℕ) → with_admin new r h ≡ (with_admin old r h && not ((r == role) && (h == to)))
option_gone old mid new role to less more r h =
    more r h ∙ ap (λ x. x || ((r == role) && (h == to) && false)) (less r h) ∙ by ((r == role) && (h == to)) (with_admin old r h)
  where
    by : (t x : Bool) → ((x && not t) || (t && false)) ≡ (x && not t)
    by true true = refl
    by true false = refl
    by false true = refl
    by false false = refl

pub is_ok : (result : Added) → (result ≡ added.Loop → ⊥) → result ≡ added.Ok
is_ok added.Ok other = refl
is_ok added.Loop other = absurd (other refl)
