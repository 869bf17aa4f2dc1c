use Rattle.std.proofs.Common.{List, ℕ, IfOk, IfErr, subst}
use Rattle.grant_lex.specs.Token.{IsCut, IsFaultOf}
use Rattle.grant_lex.proofs.Answered.{answers_cut, refuses_fault}
use Rattle.grant_lex.proofs.Spans.{answers_each, answers_spans}
use Rattle.grant_lex.proofs.cut.tokens.Goals as goal
use Rattle.grant_lex.proofs.cut.tokens.Goals.{After-cut}

found : (c : After-cut) → IfOk c.cut.result (λ tokens. IsCut c.args.text.now tokens)
found c = subst (λ (l : List ℕ). IfOk c.cut.result (λ tokens. IsCut l tokens)) c.as_bytes.ensures.value c.cut.ensures.found

refused : (c : After-cut) → IfErr c.cut.result (λ refusal. IsFaultOf c.args.text.now refusal)
refused c = subst (λ (l : List ℕ). IfErr c.cut.result (λ refusal. IsFaultOf l refusal)) c.as_bytes.ensures.value c.cut.ensures.refused

pub returns-clause-only : goal.returns-clause-only
returns-clause-only c = answers_cut _ _ (found c) (refused c)

pub returns-clause-spans : goal.returns-clause-spans
returns-clause-spans c = answers_spans _ _ c.utf8.text (found c)

pub returns-clause-each : goal.returns-clause-each
returns-clause-each c = answers_each _ _ (answers_spans _ _ c.utf8.text (found c))

pub returns-clause-exact : goal.returns-clause-exact
returns-clause-exact c = refuses_fault _ _ (found c) (refused c)
