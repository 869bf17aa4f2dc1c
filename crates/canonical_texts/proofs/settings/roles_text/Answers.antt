use Rattle.std.proofs.Common.{◌∙◌, ◌++◌, [], List, ℕ, ap}
use Rattle.std.specs.Prelude.{codes}
use Rattle.acl_names.specs.AuthId.{auth_text}
use Rattle.canonical_texts.specs.Lists.{list_text}
use Rattle.canonical_texts.proofs.Members.{roles_written}
use Rattle.canonical_texts.proofs.settings.roles_text.Goals as goal

pub returns : goal.returns
returns c =
    c.in_ok-write_list.ensures
    ∙ ap (λ (l : List ℕ). l ++ list_text [] (codes ",") auth_text c.args.roles.now) c.new-names.ensures.bytes
    ∙ roles_written c.args.roles.now
