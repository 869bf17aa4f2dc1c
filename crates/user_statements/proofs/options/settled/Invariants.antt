use Rattle.std.proofs.Common.{◌≡◌, drop}
use Rattle.user_statements.specs.Options.{no_options, with_settings}
use Rattle.user_statements.proofs.options.settled.Given as goal

abbrev pub invariant-loop-setting : goal.invariant-loop-setting
invariant-loop-setting l = with_settings l.options (drop l.setting-index l.fn.settings) ≡ with_settings no_options l.fn.settings
