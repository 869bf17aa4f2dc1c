use Rattle.std.proofs.Common.{sym, refl}
use Rattle.user_statements.specs.Options.{setting}
use Rattle.user_statements.proofs.options.begins_setting.Goals as goal

pub returns-then-has : goal.returns-then-has
unfolding setting
returns-then-has c = rw (sym c.has.ensures, c.if-has.true) refl

pub returns-then-has-2 : goal.returns-then-has-2
unfolding setting
returns-then-has-2 c = rw (sym c.has.ensures, sym c.has-2.ensures, c.if-has.false, c.if-has-2.true) refl

pub returns : goal.returns
unfolding setting
returns c = rw (sym c.has.ensures, sym c.has-2.ensures, sym c.has-3.ensures, c.if-has.false, c.if-has-2.false) refl
