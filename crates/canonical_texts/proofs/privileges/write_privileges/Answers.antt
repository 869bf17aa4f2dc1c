use Rattle.std.proofs.Common.{ap, ◌∙◌, ◌++◌, string_bytes, map}
use Rattle.std.proofs.lemmas.Result.{IfOk-equal}
use Rattle.canonical_texts.proofs.Members.{items_written}
use Rattle.canonical_texts.proofs.privileges.write_privileges.Goals as goal

pub returns-in_ok-items : goal.returns-in_ok-items
returns-in_ok-items c =
    IfOk-equal c.write_list.result _ _ _ c.write_list.ensures
    (ap (λ l. string_bytes c.args.text.now ++ l) (items_written string_bytes c.as_slice.result.now c.args.privileges.now (ap (map string_bytes) c.as_slice.ensures.value ∙ c.in_ok-items.ensures) c.if-privileges.false))
