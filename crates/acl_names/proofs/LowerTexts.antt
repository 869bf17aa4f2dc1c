-- A text in lower case is one that lower-casing leaves alone.
use Rattle.std.proofs.Common.{◌≡◌, ℕ, true, List}
use Rattle.std.specs.Str.{str_to_ascii_lowercase}
use Rattle.acl_names.proofs.Lowered.{lowered-lowered}
use Rattle.acl_names.proofs.SameAuth.{text_eq_itself}
use Rattle.acl_names.specs.Text.{is_lower}

pub lowered_is_lower : (text : List ℕ) → is_lower (str_to_ascii_lowercase text) ≡ true
lowered_is_lower text = rw (lowered-lowered text) (text_eq_itself (str_to_ascii_lowercase text))
