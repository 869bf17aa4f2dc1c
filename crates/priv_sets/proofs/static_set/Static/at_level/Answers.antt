use Rattle.std.proofs.Common.{refl, arith}
use Rattle.priv_sets.specs.Levels.{has_level}
use Rattle.priv_sets.specs.declared.level.Level.TheVariants.{Column, Table, Routine, Schema, Global}
use Rattle.priv_sets.proofs.LevelLemmas.{no_level_above}
use Rattle.priv_sets.specs.StaticSet.{holds}
use Rattle.priv_sets.proofs.Bits.{mask_bits}
use Rattle.priv_sets.proofs.static_set.Static.at_level.Goals as goal

pub returns-in-Column-clause-members : goal.returns-in-Column-clause-members
unfolding holds has_level
returns-in-Column-clause-members c = λ q. rw c.in-Column.is (mask_bits 1031 (has_level Column) q (omega arith) refl (no_level_above Column q))

pub returns-in-Table-clause-members : goal.returns-in-Table-clause-members
unfolding holds has_level
returns-in-Table-clause-members c = λ q. rw c.in-Table.is (mask_bits 1144003647 (has_level Table) q (omega arith) refl (no_level_above Table q))

pub returns-in-Routine-clause-members : goal.returns-in-Routine-clause-members
unfolding holds has_level
returns-in-Routine-clause-members c = λ q. rw c.in-Routine.is (mask_bits 1082261504 (has_level Routine) q (omega arith) refl (no_level_above Routine q))

pub returns-in-Schema-clause-members : goal.returns-in-Schema-clause-members
unfolding holds has_level
returns-in-Schema-clause-members c = λ q. rw c.in-Schema.is (mask_bits 1190370367 (has_level Schema) q (omega arith) refl (no_level_above Schema q))

pub returns-in-Global-clause-members : goal.returns-in-Global-clause-members
unfolding holds has_level
returns-in-Global-clause-members c = λ q. rw c.in-Global.is (mask_bits 2147483647 (has_level Global) q (omega arith) refl (no_level_above Global q))
