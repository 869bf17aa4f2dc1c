use Rattle.std.proofs.Common.{refl}
use Rattle.std.proofs.lemmas.Result.{IfOk-equal}
use Rattle.canonical_texts.proofs.Members.{three_parts}
use Rattle.canonical_texts.proofs.settings.write_set_password.Goals as goal

pub returns : goal.returns
returns c =
    IfOk-equal c.write_verifier.result _ _ _ c.write_verifier.ensures
    (three_parts _ _ _ _ _ _ _ c.in_ok-push_str.ensures.bytes c.in_ok-write_for.ensures refl)
