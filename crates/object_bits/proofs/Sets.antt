-- What a write on a key does to the entries.
use Rattle.std.proofs.Common.{◌≡◌, ◌+◌, Bool, ℕ, List, length, subst}
use Rattle.held_bits.specs.declared.bits.Bits.{Bits}
use Rattle.held_bits.specs.Bits.{record_count}
use Rattle.held_bits.specs.HeldBits.{Entry, IsSound, SetsBits, bits_at}
use Rattle.object_bits.specs.Keys.{key_uses, same_key}
use Rattle.object_bits.specs.Kept.{IsSet}
use Rattle.object_bits.specs.declared.key.Key.{Key}
use Rattle.object_bits.proofs.SameKeys.{equal_from_same_key, same_key_itself}
use Rattle.object_bits.proofs.Sums.{sets_total}

pub is_set : (eq : Key → Key → Bool) → eq ≡ same_key → (old new : List (Entry Key)) (holder : ℕ) (key : Key) (bits : Bits) → IsSound eq old → IsSound eq new →
    SetsBits eq old new holder key bits → length new + record_count (bits_at eq old holder key) ≡ length old + record_count bits → IsSet old new holder key bits
is_set eq same old new holder key bits sound also sets count =
    let sets_here : SetsBits same_key old new holder key bits = subst (λ (e : Key → Key → Bool). SetsBits e old new holder key bits) same sets in
    record {
      sets = sets_here;
      count = subst (λ (e : Key → Key → Bool). length new + record_count (bits_at e old holder key) ≡ length old + record_count bits) same count;
      uses = λ n. sets_total same_key equal_from_same_key same_key_itself (key_uses n) old new holder key bits
          (subst (λ (e : Key → Key → Bool). IsSound e old) same sound) (subst (λ (e : Key → Key → Bool). IsSound e new) same also) sets_here;
    }
