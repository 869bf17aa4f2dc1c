-- Nodes in an order in which each role comes before the nodes that hold it.
use Rattle.std.specs.Prelude.{◌≡◌, ◌<◌, ◌+◌, ◌==◌, ◌&&◌, not, ℕ, zero, suc, Bool, true, false, cond, List, take, slice_index, count_by, if◌then◌else◌}
use Rattle.role_graph.specs.Paths.{Granted}

-- how many numbers below a bound fail a test
unfoldable pub failing : (ℕ → Bool) → ℕ → ℕ
failing p zero = 0
failing p (suc n) = cond (p n) (failing p n) (failing p n + 1)

-- a node that is in one set and does not wait in the other
abbrev pub done : (ℕ → Bool) → (ℕ → Bool) → ℕ → Bool
done seen waiting n = seen n && not (waiting n)

-- the first nodes of a list are those that were placed, each once and after the roles of it that are affected
pub record IsOrder (granted : Granted) (affected placed : ℕ → Bool) (nodes : List ℕ) (count : ℕ) : Type 0 where
  pub number_placed : count + failing placed 4096 ≡ 4096
  pub only_affected : (n : ℕ) → placed n ≡ true → affected n ≡ true
  pub listed : (k : ℕ) → k < count → placed (slice_index nodes k) ≡ true
  pub once : (n : ℕ) → count_by (λ x. x == n) (take count nodes) ≡ (if placed n then 1 else 0)
  pub closed : (role node : ℕ) → placed node ≡ true → granted role node ≡ true → affected role ≡ true → placed role ≡ true
  pub roles_first : (i j : ℕ) → i < count → j < count → granted (slice_index nodes i) (slice_index nodes j) ≡ true → i < j

-- each affected node that is not placed, and is not to be looked at still, has an affected role that is not placed or waits
pub record IsWave (granted : Granted) (affected placed waiting to_look_at : ℕ → Bool) : Type 0 where
  pub waits : (n : ℕ) → waiting n ≡ true → placed n ≡ true
  pub blocked : (node : ℕ) → affected node ≡ true → placed node ≡ false → to_look_at node ≡ false →
      (role : ℕ) × (granted role node ≡ true) × (affected role ≡ true) × (done placed waiting role ≡ false)
