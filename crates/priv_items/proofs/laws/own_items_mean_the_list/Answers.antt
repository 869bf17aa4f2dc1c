use Rattle.std.proofs.Common.{◌∙◌, sym}
use Rattle.priv_sets.specs.Levels.{grant_option}
use Rattle.priv_items.proofs.OwnItems.{own_items}
use Rattle.priv_items.proofs.WithoutOption.{meant_as_granted}
use Rattle.priv_items.specs.Canonical.{items_of}
use Rattle.priv_items.proofs.laws.own_items_mean_the_list.Goals as goal

pub returns-clause-meant : goal.returns-clause-meant
returns-clause-meant c = own_items

pub returns-clause-granted : goal.returns-clause-granted
returns-clause-granted c = λ list none. meant_as_granted (items_of list) list (own_items list) none

pub returns-clause-no_option : goal.returns-clause-no_option
returns-clause-no_option c = λ list none. sym ((own_items list).plain grant_option) ∙ none
