use Rattle.std.proofs.Common.{List, ℕ, Option, sym, subst}
use Rattle.std.proofs.lemmas.Result.{err_from_is_err_and}
use Rattle.grant_lex.specs.Token.{IsNextToken}
use Rattle.grant_lex.specs.declared.sorts.Token.{Token}
use Rattle.grant_lex.proofs.Cuts.{IsSoFar, fault_of, so_far_cut, so_far_fault, so_far_more, step_ends}
use Rattle.grant_lex.proofs.cut.cut.Goals as goal

pub returns-in_err-token-clause-refused : goal.returns-in_err-token-clause-refused
returns-in_err-token-clause-refused c =
    let p = err_from_is_err_and c.from_residual.result c.from_residual.ensures.1 in
    rw (p.1, p.2) (fault_of _ _ (so_far_fault _ _ _ _ _ c.loop-tokens.invariant c.in_err-token.ensures.err))

pub loop-tokens-preserved : goal.loop-tokens-preserved
loop-tokens-preserved c =
    let step = subst (λ (o : Option Token). IsNextToken c.loop-tokens.at c.loop-tokens.rest.now o) c.in-Some.is c.in_ok-token.ensures.ok in
    let more = so_far_more _ _ _ _ _ _ c.loop-tokens.invariant step.1 in
    let left = (step_ends _ _ _ _ step.1).left in
    subst (λ (l : List ℕ). IsSoFar c.args.text.now c.in-Some.token.to l c.push.new.self) (sym left)
    (subst (λ (ts : List Token). IsSoFar c.args.text.now c.in-Some.token.to step.0 ts) (sym c.in_ok-push.ensures.ok) more)

pub returns-clause-found : goal.returns-clause-found
returns-clause-found c =
    let step = subst (λ (o : Option Token). IsNextToken c.loop-tokens.at c.loop-tokens.rest.now o) c.in_default.is c.in_ok-token.ensures.ok in
    so_far_cut _ _ _ _ c.loop-tokens.invariant step
