use Rattle.std.proofs.Common.{◌≡◌, ℕ, List, None, take, subst, arith}
use Rattle.script_commands.specs.Fronts.{IsFaultAt, IsFirstFault}
use Rattle.script_commands.proofs.Fronts.{boundary, front_before, front_inside, located}
use Rattle.script_commands.proofs.moment.length_before.Goals as goal

pub range-requires-clause-end_boundary : goal.range-requires-clause-end_boundary
range-requires-clause-end_boundary c = boundary c.args.text.now c.args.fault (located c.args.text.now c.args.fault c.requires.fault).ascii

pub returns-in-Ok-Some-clause-cut : goal.returns-in-Ok-Some-clause-cut
returns-in-Ok-Some-clause-cut c =
    let front : c.range.result.now ≡ take c.args.fault c.args.text.now = grind (arith, c.range.ensures.value) in
    let fault : IsFaultAt c.range.result.now c.in-Ok-Some.quote = subst (IsFirstFault c.range.result.now) c.in-Ok-Some.field-0-is c.in-Ok-Some.ensures in
    let P : List ℕ → Type 0 = λ l. IsFaultAt l c.in-Ok-Some.quote in
    boundary c.args.text.now c.in-Ok-Some.quote
    (front_inside c.args.text.now c.args.fault c.in-Ok-Some.quote (located c.args.text.now c.args.fault c.requires.fault) (subst P front fault)).ascii

pub returns-in-Ok-Some-clause-front : goal.returns-in-Ok-Some-clause-front
returns-in-Ok-Some-clause-front c =
    let front : c.range.result.now ≡ take c.args.fault c.args.text.now = grind (arith, c.range.ensures.value) in
    let fault : IsFaultAt c.range.result.now c.in-Ok-Some.quote = subst (IsFirstFault c.range.result.now) c.in-Ok-Some.field-0-is c.in-Ok-Some.ensures in
    let P : List ℕ → Type 0 = λ l. IsFaultAt l c.in-Ok-Some.quote in
    let k = front_inside c.args.text.now c.args.fault c.in-Ok-Some.quote (located c.args.text.now c.args.fault c.requires.fault) (subst P front fault) in
    (k.tokens, k.front)

pub returns-in-Ok-None-clause-cut : goal.returns-in-Ok-None-clause-cut
returns-in-Ok-None-clause-cut c = boundary c.args.text.now c.args.fault (located c.args.text.now c.args.fault c.requires.fault).ascii

pub returns-in-Ok-None-clause-front : goal.returns-in-Ok-None-clause-front
returns-in-Ok-None-clause-front c =
    let front : c.range.result.now ≡ take c.args.fault c.args.text.now = grind (arith, c.range.ensures.value) in
    let none = subst (IsFirstFault c.range.result.now) c.in-Ok-None.field-0-is c.in-Ok-None.ensures in
    let P : List ℕ → Type 0 = λ l. IsFirstFault l None in
    let cut = subst P front none in
    front_before c.args.text.now c.args.fault (located c.args.text.now c.args.fault c.requires.fault) cut.0 cut.1
