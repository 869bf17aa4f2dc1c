use Rattle.std.proofs.Common.{[], ◌∷◌, refl}
use Rattle.std.proofs.lemmas.Result.{err_from_is_err_and}
use Rattle.acl_stmt.specs.declared.refusal.Full.TheVariants.{Accounts, Schemas, Pairs, Objects, Edges}
use Rattle.row_edits.proofs.Limiting.{first_over, if_err_weaker, none_of_more, none_of_none}
use Rattle.row_edits.proofs.limits.within_limits.Goals as goal

pub returns-in_err-within_limit-clause-err : goal.returns-in_err-within_limit-clause-err
returns-in_err-within_limit-clause-err c =
    let p = err_from_is_err_and c.from_residual.result c.from_residual.ensures.1 in
    rw (p.1, p.2) (first_over _ ([]) (Schemas ∷ Pairs ∷ Objects ∷ Edges ∷ []) Accounts refl (none_of_none _) c.in_err-within_limit.field-0.0 c.in_err-within_limit.ensures.err)

pub returns-in_err-within_limit-2-clause-err : goal.returns-in_err-within_limit-2-clause-err
returns-in_err-within_limit-2-clause-err c =
    let p = err_from_is_err_and c.from_residual-in_err-within_limit-2.result c.from_residual-in_err-within_limit-2.ensures.1 in
    rw (p.1, p.2) (first_over _ (Accounts ∷ []) (Pairs ∷ Objects ∷ Edges ∷ []) Schemas refl (none_of_more _ Accounts ([]) c.in_ok-within_limit.ensures.ok (none_of_none _)) c.in_err-within_limit-2.field-0.0 c.in_err-within_limit-2.ensures.err)

pub returns-in_err-within_limit-3-clause-err : goal.returns-in_err-within_limit-3-clause-err
returns-in_err-within_limit-3-clause-err c =
    let p = err_from_is_err_and c.from_residual-in_err-within_limit-3.result c.from_residual-in_err-within_limit-3.ensures.1 in
    rw (p.1, p.2) (first_over _ (Accounts ∷ Schemas ∷ []) (Objects ∷ Edges ∷ []) Pairs refl (none_of_more _ Accounts (Schemas ∷ []) c.in_ok-within_limit.ensures.ok (none_of_more _ Schemas ([]) c.in_ok-within_limit-2.ensures.ok (none_of_none _))) c.in_err-within_limit-3.field-0.0 c.in_err-within_limit-3.ensures.err)

pub returns-in_err-within_limit-4-clause-err : goal.returns-in_err-within_limit-4-clause-err
returns-in_err-within_limit-4-clause-err c =
    let p = err_from_is_err_and c.from_residual-in_err-within_limit-4.result c.from_residual-in_err-within_limit-4.ensures.1 in
    rw (p.1, p.2) (first_over _ (Accounts ∷ Schemas ∷ Pairs ∷ []) (Edges ∷ []) Objects refl (none_of_more _ Accounts (Schemas ∷ Pairs ∷ []) c.in_ok-within_limit.ensures.ok (none_of_more _ Schemas (Pairs ∷ []) c.in_ok-within_limit-2.ensures.ok (none_of_more _ Pairs ([]) c.in_ok-within_limit-3.ensures.ok (none_of_none _)))) c.in_err-within_limit-4.field-0.0 c.in_err-within_limit-4.ensures.err)

pub returns-clause-err : goal.returns-clause-err
returns-clause-err c =
    if_err_weaker c.within_limit-5.result _ _
    (first_over _ (Accounts ∷ Schemas ∷ Pairs ∷ Objects ∷ []) ([]) Edges refl (none_of_more _ Accounts (Schemas ∷ Pairs ∷ Objects ∷ []) c.in_ok-within_limit.ensures.ok (none_of_more _ Schemas (Pairs ∷ Objects ∷ []) c.in_ok-within_limit-2.ensures.ok (none_of_more _ Pairs (Objects ∷ []) c.in_ok-within_limit-3.ensures.ok (none_of_more _ Objects ([]) c.in_ok-within_limit-4.ensures.ok (none_of_none _))))))
    c.within_limit-5.ensures.err
