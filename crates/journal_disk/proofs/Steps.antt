-- What one call of a disk does to what it holds, and to the images that a crash may leave.
use Rattle.std.proofs.Common.{◌≡◌, ◌⊎◌, inl, inr, ℕ, ◌+◌, ◌≤◌, max, List, [], ◌∷◌, ◌++◌, length, take, drop, Option, None, Some, IfSome, IfNone, Result, Ok, Err, OnOk, OnErr, refl, sym, ap, subst, ◌∙◌, length-append, length-take, length-drop, arith}
use Rattle.std.specs.Prelude.{IsSome, IsSomeAnd}
use Rattle.std.specs.Option.{ForSome}
use Rattle.acl_ports.proofs.Crash.{goes_on, started}
use Rattle.acl_ports.specs.Crash.{BecomesSynced, Elapses, IsImage, IsTorn, LeavesOnly, Pending, all_synced, with_write}
use Rattle.acl_ports.specs.Disk.{HasChangedIn, HasChangedWithin, Stays, content_after_write}
use Rattle.journal_disk.specs.Held.{HasBytesUpTo, IsStillTold}

-- it is told what a read gives and what is pending, and this holds of both
abbrev pub Told : Option (List ℕ) → Option Pending → (List ℕ → Pending → Type 0) → Type 0
Told content pending I = IsSomeAnd content (λ held. IsSomeAnd pending (I held))

abbrev pub dirtied : ℕ → ℕ → Pending → Pending
dirtied at count known = record known { dirty = (at, count) ∷ known.dirty }

abbrev pub all_of : List ℕ → Pending
all_of held = record { synced = held; dirty = [] }

module _ (I : List ℕ → Pending → Type 0) where
  pub wrote : (J : List ℕ → Pending → Type 0) (at : ℕ) (bytes : List ℕ) (before after : Option (List ℕ)) (p q : Option Pending)
      → ((held : List ℕ) (known : Pending) → I held known → J (content_after_write held at bytes) (dirtied at (length bytes) known))
      → IfSome before (λ held. after ≡ Some (content_after_write held at bytes)) → q ≡ with_write at (length bytes) p → Told before p I → Told after q J
  wrote J at bytes None after p q keeps is dirty told = absurd told
  wrote J at bytes (Some held) after None q keeps is dirty told = absurd told
  wrote J at bytes (Some held) after (Some known) q keeps is dirty told = rw (is, dirty) (keeps held known told)

  pub tore : (at count : ℕ) (before after : Option (List ℕ)) (p q : Option Pending)
      → ((held next : List ℕ) (known : Pending) → I held known → HasChangedWithin at count held next → I next known)
      → ((held : List ℕ) (known : Pending) → I held known → I held (dirtied at count known))
      → IfSome before (λ held. IsSomeAnd after (HasChangedWithin at count held)) → (q ≡ p) ⊎ (q ≡ with_write at count p) → Told before p I → Told after q I
  tore at count None after p q keeps widens changed dirty told = absurd told
  tore at count (Some held) after None q keeps widens changed dirty told = absurd told
  tore at count (Some held) None (Some known) q keeps widens changed dirty told = absurd changed
  tore at count (Some held) (Some next) (Some known) q keeps widens changed (inl same) told = rw same (keeps held next known told changed)
  tore at count (Some held) (Some next) (Some known) q keeps widens changed (inr more) told = rw more (widens next known (keeps held next known told changed))

  pub synced : (J : List ℕ → Pending → Type 0) (before after : Option (List ℕ)) (p q : Option Pending) → ((held : List ℕ) (known : Pending) → I held known → J held (all_of held))
      → Stays before after → q ≡ all_synced before → Told before p I → Told after q J
  synced J None after p q keeps stays is told = absurd told
  synced J (Some held) after None q keeps stays is told = absurd told
  synced J (Some held) after (Some known) q keeps stays is told = rw (stays, is) (keeps held known told)

  pub sync_tore : (before after : Option (List ℕ)) (p q : Option Pending) → ((held next : List ℕ) (known : Pending) → I held known → HasChangedIn known.dirty held next → I next known)
      → IfSome before (λ held. IfSome p (λ known. IsSomeAnd after (HasChangedIn known.dirty held))) → q ≡ p → Told before p I → Told after q I
  sync_tore None after p q keeps changed same told = absurd told
  sync_tore (Some held) after None q keeps changed same told = absurd told
  sync_tore (Some held) None (Some known) q keeps changed same told = absurd changed
  sync_tore (Some held) (Some next) (Some known) q keeps changed same told = rw same (keeps held next known told changed)

  pub synced_or_not : {T E : Type 0} (before after : Option (List ℕ)) (p q : Option Pending) (result : Result T E)
      → ((held : List ℕ) (known : Pending) → I held known → I held (all_of held))
      → ((held next : List ℕ) (known : Pending) → I held known → HasChangedIn known.dirty held next → I next known)
      → OnOk result (Stays before after) → OnErr result (IfSome before (λ held. IfSome p (λ known. IsSomeAnd after (HasChangedIn known.dirty held))))
      → BecomesSynced before result p q → Told before p I → Told after q I
  synced_or_not before after p q (Ok value) settles keeps stays changed step told = synced I before after p q settles stays step told
  synced_or_not before after p q (Err fault) settles keeps stays changed step told = sync_tore before after p q keeps changed step told

  pub here : (P : List ℕ → Type 0) (content : Option (List ℕ)) (p : Option Pending) (image : List ℕ)
      → ((held : List ℕ) (known : Pending) (image : List ℕ) → I held known → IsTorn known.dirty known.synced image → P image)
      → Told content p I → IsImage p image → P image
  here P None p image images told left = absurd told
  here P (Some held) None image images told left = absurd told
  here P (Some held) (Some known) image images told left = images held known image told left

-- the images of a run
module _ {D : Type 0} (content : D → Option (List ℕ)) (moment : D → ℕ) (pending : D → ℕ → Option Pending) (I : List ℕ → Pending → Type 0) (P : List ℕ → Type 0)
    (images : (held : List ℕ) (known : Pending) (image : List ℕ) → I held known → IsTorn known.dirty known.synced image → P image) where
  pub starts : (old : D) → Told (content old) (pending old (moment old)) I → LeavesOnly moment pending old old P
  starts old told = started moment pending old P (λ image left. here I P (content old) (pending old (moment old)) image images told left)

  pub further : (old mid new : D) (Step : Option Pending → Option Pending → Type 0) → LeavesOnly moment pending old mid P → Elapses (moment mid) (moment new) (pending mid) (pending new) Step
      → Told (content new) (pending new (moment new)) I → LeavesOnly moment pending old new P
  further old mid new Step so_far time told = goes_on moment pending old mid new P Step so_far time (λ image left. here I P (content new) (pending new (moment new)) image images told left)

pub if_told : (o : Option (List ℕ)) (F : List ℕ → Type 0) (Q : Type 0) → IfSome o F → (IsSomeAnd o F → Q) → IfSome o (λ _. Q)
if_told None F Q held f = tt
if_told (Some v) F Q held f = f held

pub still : (o after : Option (List ℕ)) (F G : List ℕ → Type 0) → IfSome o F → IfNone o (after ≡ None) → (IsSomeAnd o F → IsSomeAnd after G) → IfSome after G
still None after F G held none f = rw none tt
still (Some v) after F G held none f = weak after (f held)
  where
    weak : (o : Option (List ℕ)) → IsSomeAnd o G → IfSome o G
    weak None h = absurd h
    weak (Some v) h = h

pub untold_again : (o mid after : Option (List ℕ)) → IfNone o (mid ≡ None) → IfNone mid (after ≡ None) → IfNone o (after ≡ None)
untold_again None mid after first second = subst (λ (m : Option (List ℕ)). IfNone m (after ≡ None)) first second
untold_again (Some v) mid after first second = tt

-- a call leaves no fewer bytes
abbrev pub IsNoShorter : Option (List ℕ) → Option (List ℕ) → Type 0
IsNoShorter before after = (size : ℕ) → HasBytesUpTo before size → HasBytesUpTo after size

pub length-write : (held bytes : List ℕ) (at : ℕ) → at ≤ length held → length (content_after_write held at bytes) ≡ max (length held) (at + length bytes)
length-write held bytes at inside =
    omega (arith, length-append (take at held ++ bytes) (drop (at + length bytes) held), length-append (take at held) bytes, length-take at held, length-drop (at + length bytes) held)

-- told of no bytes, or of so many
long_if_some : (after : Option (List ℕ)) (found : List ℕ) (size : ℕ) → after ≡ Some found → size ≤ length found → HasBytesUpTo after size
long_if_some after found size is long = λ other e. let same : found ≡ other = cc in subst (λ (x : List ℕ). size ≤ length x) same long

long_if_none : (after : Option (List ℕ)) (size : ℕ) → after ≡ None → HasBytesUpTo after size
long_if_none after size is = λ other e. absurd (cc)

pub wrote_longer : (at : ℕ) (bytes : List ℕ) (before after : Option (List ℕ)) → IfSome before (λ held. after ≡ Some (content_after_write held at bytes)) → IfNone before (after ≡ None)
    → HasBytesUpTo before at → IsNoShorter before after × HasBytesUpTo after (at + length bytes)
wrote_longer at bytes None after is none inside = (λ size long. long_if_none after size none, long_if_none after (at + length bytes) none)
wrote_longer at bytes (Some held) after is none inside =
    let size = length-write held bytes at (inside held refl) in (
      λ count long. let enough : count ≤ length held = long held refl in long_if_some after (content_after_write held at bytes) count is (omega (arith, size, enough)),
      long_if_some after (content_after_write held at bytes) (at + length bytes) is (omega (arith, size)),
    )

pub not_shorter : (before after : Option (List ℕ)) → IfSome before (λ held. IsSomeAnd after (λ next. length held ≤ length next)) → IfNone before (after ≡ None) → IsNoShorter before after
not_shorter None after more none = λ size long. long_if_none after size none
not_shorter (Some held) None more none = absurd more
not_shorter (Some held) (Some next) more none = λ size long. let enough : size ≤ length held = long held refl in long_if_some (Some next) next size refl (omega (arith, more, enough))

pub tore_longer : (at count : ℕ) (before after : Option (List ℕ)) → IfSome before (λ held. IsSomeAnd after (HasChangedWithin at count held)) → IfNone before (after ≡ None) → IsNoShorter before after
tore_longer at count None after changed none = λ size long. long_if_none after size none
tore_longer at count (Some held) None changed none = absurd changed
tore_longer at count (Some held) (Some next) changed none = not_shorter (Some held) (Some next) changed.no_shorter tt

pub stays_longer : (before after : Option (List ℕ)) → Stays before after → IfNone before (after ≡ None) → IsNoShorter before after
stays_longer None after stays none = λ size long. long_if_none after size none
stays_longer (Some held) after stays none = λ size long. long_if_some after held size stays (long held refl)

pub synced_longer : {T E : Type 0} (before after : Option (List ℕ)) (result : Result T E) → OnOk result (Stays before after)
    → OnErr result (IfSome before (λ held. IsSomeAnd after (λ next. length held ≤ length next))) → IfNone before (after ≡ None) → IsNoShorter before after
synced_longer before after (Ok value) stays more none = stays_longer before after stays none
synced_longer before after (Err fault) stays more none = not_shorter before after more none

-- what a read gives is told still
pub wrote_told : (at : ℕ) (bytes : List ℕ) (before after : Option (List ℕ)) → IfSome before (λ held. after ≡ Some (content_after_write held at bytes)) → IsStillTold before after
wrote_told at bytes None after is = tt
wrote_told at bytes (Some held) after is = subst (λ (o : Option (List ℕ)). IsSome o) (sym is) refl

told_if : (P : List ℕ → Type 0) (after : Option (List ℕ)) → IsSomeAnd after P → IsSome after
told_if P None held = absurd held
told_if P (Some next) held = refl

pub tore_told : (P : List ℕ → List ℕ → Type 0) (before after : Option (List ℕ)) → IfSome before (λ held. IsSomeAnd after (P held)) → IsStillTold before after
tore_told P None after changed = tt
tore_told P (Some held) after changed = told_if (P held) after changed

stays_told : (before after : Option (List ℕ)) → Stays before after → IsStillTold before after
stays_told None after stays = tt
stays_told (Some held) after stays = subst (λ (o : Option (List ℕ)). IsSome o) (sym stays) refl

pub synced_told : {T E : Type 0} (before after : Option (List ℕ)) (result : Result T E) → OnOk result (Stays before after)
    → OnErr result (IfSome before (λ held. IsSomeAnd after (λ next. length held ≤ length next))) → IsStillTold before after
synced_told before after (Ok value) stays more = stays_told before after stays
synced_told before after (Err fault) stays more = tore_told (λ held next. length held ≤ length next) before after more

pub told_again : (first mid last : Option (List ℕ)) → IsStillTold first mid → IsStillTold mid last → IsStillTold first last
told_again None mid last a b = tt
told_again (Some held) None last a b = cc
told_again (Some held) (Some next) last a b = b
