use Rattle.std.proofs.Common.{◌∙◌, ◌++◌, List, ℕ, ap, string_bytes}
use Rattle.std.proofs.lemmas.Result.{IfOk-equal}
use Rattle.std.specs.Prelude.{codes}
use Rattle.canonical_texts.specs.Quotes.{string_text}
use Rattle.canonical_texts.proofs.settings.write_mandatory.Goals as goal

pub returns : goal.returns
returns c =
    IfOk-equal c.write_setting.result _ _ _ c.write_setting.ensures
    (ap (λ (l : List ℕ). string_bytes c.args.text.now ++ (codes "SET PERSIST mandatory_roles = " ++ string_text l)) (c.as_str.ensures.value ∙ c.in_ok-names.ensures))
