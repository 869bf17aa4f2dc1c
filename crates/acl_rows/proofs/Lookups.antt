-- Looking up what a list has.
use Rattle.std.proofs.Common.{◌≡◌, ◌∙◌, ap, Bool, true, false, ◌||◌, List, [], ◌∷◌, Option, Some, None, refl, is_some, cond}
use Rattle.std.specs.Borrow.{Bor}
use Rattle.std.specs.List.{find, list_any}
use Rattle.std.specs.Option.{option_copied, option_map}
use Rattle.acl_names.specs.declared.auth.AuthId.{AuthId}
use Rattle.acl_model.specs.declared.account_data.AccountData.{AccountData}
use Rattle.acl_rows.specs.Tables.{data_of, has_account}

found_step : {X Y : Type 0} (f : X → Y) (b : Bool) (item : X) (rest : Option X) (any : Bool) → is_some (option_map f rest) ≡ any
    → is_some (option_map f (cond b (Some item) rest)) ≡ (b || any)
found_step f true item rest any same = refl
found_step f false item rest any same = same

-- an item is found exactly where one passes
pub found_where_any : {X Y : Type 0} (f : X → Y) (p : X → Bool) (items : List X) → is_some (option_map f (find p items)) ≡ list_any p items
found_where_any f p [] = refl
found_where_any f p (item ∷ items) = found_step f (p item) item (find p items) (list_any p items) (found_where_any f p items)

copied_is_some : {X : Type 0} (o : Option (Bor X)) → is_some o ≡ is_some (option_copied o)
copied_is_some None = refl
copied_is_some (Some x) = refl

-- there are data exactly of the accounts that are listed
pub stands_from_data : (result : Option (Bor AccountData)) (accounts : List (AuthId × AccountData)) (a : AuthId)
    → option_copied result ≡ data_of accounts a → is_some result ≡ has_account accounts a
stands_from_data result accounts a same = copied_is_some result ∙ ap is_some same ∙ found_where_any (λ pair. pair.1) _ accounts
