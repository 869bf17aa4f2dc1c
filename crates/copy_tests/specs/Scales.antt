-- What a scale stands for, and what both copies have in common.
use Rattle.published_copies.specs.declared.stage.Stage.{Stage}
use Rattle.published_copies.specs.declared.copies.Content.{Content}
use Rattle.published_copies.specs.declared.history.Mark.{Mark}
use Rattle.copy_tests.specs.declared.scale.Weight.{Weight}
use Rattle.copy_tests.specs.declared.scale.Scale.{Scale}

abbrev pub stage_of : Scale → Stage Weight
stage_of s = record { entries = s.entries.items; ended = s.ended }

abbrev pub content_of : Scale → Mark Weight → Content Weight
content_of s mark = record { stage = stage_of s; mark = mark }
