-- The account that a client is let in by. MySQL 8.0 Reference Manual, "Access Control, Stage 1: Connection Verification".
use Rattle.std.specs.Prelude.{◌≡◌, ◌<◌, ℕ, true, List, length, Option, Some, None, All, AllPairs}
use Rattle.std.specs.List.{HoldsAt}
use Rattle.std.specs.declared.cmp.Ordering.TheVariants.{Less}
use Rattle.account_match.specs.Admitted.{is_admitted}
use Rattle.account_match.specs.Order.{account_order}
use Rattle.account_match.specs.declared.client.Client.{Client}
use Rattle.account_match.specs.declared.listed.Listed.{Listed}

-- the one comes before the other
abbrev pub Precedes : Listed → Listed → Type 0
Precedes a b = account_order a.auth b.auth ≡ Less

-- each account comes before all that stand behind it
abbrev pub IsStrictlyOrdered : List Listed → Type 0
IsStrictlyOrdered accounts = AllPairs Precedes accounts

-- the account admits the client
abbrev pub Admits : List ℕ → Client → Listed → Type 0
Admits user client account = is_admitted user client account.auth ≡ true

-- it admits the client, and no account that does comes before it
pub record IsChosen (accounts : List Listed) (user : List ℕ) (client : Client) (account : Listed) : Type 0 where
  pub admits : Admits user client account
  pub first : All (λ other. Admits user client other → ¬ (Precedes other account)) accounts

-- the place of the chosen account, or none where no account admits the client
abbrev pub IsChoice : List Listed → List ℕ → Client → Option ℕ → Type 0
IsChoice accounts user client (Some place) = (place < length accounts) × HoldsAt (IsChosen accounts user client) accounts place
IsChoice accounts user client None = All (λ account. ¬ (Admits user client account)) accounts
