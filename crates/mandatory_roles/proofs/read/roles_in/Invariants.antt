use denote.Shadow.{shadow}
use denote.Text.{Utf8}
use Rattle.mandatory_roles.proofs.OneByOne.{IsReadSoFar}
use Rattle.mandatory_roles.proofs.read.roles_in.Given as goal

abbrev pub invariant-loop-role : goal.invariant-loop-role
invariant-loop-role l = record { utf8 : shadow (Utf8 l.rest); so_far : IsReadSoFar l.text l._role l.roles l.rest }
