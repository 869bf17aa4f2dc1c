-- What both copies come to once all that is pending is done.
use Rattle.std.proofs.Common.{◌≡◌, List, [], ◌∷◌, ◌++◌, fold, refl, sym, ap, ◌∙◌, subst, Option, Result, Ok, Err}
use Rattle.std.specs.Prelude.{MatchResult, OnOk}
use Rattle.logbook.specs.Pages.{Named}
use Rattle.published_copies.specs.declared.stage.Stage.{Stage}
use Rattle.published_copies.specs.declared.history.Mark.{Mark}
use Rattle.published_copies.specs.declared.copies.Content.{Content}
use Rattle.published_copies.specs.declared.copies.Operation.{Operation}
use Rattle.published_copies.specs.declared.copies.Operation.TheVariants.{Marked}
use Rattle.published_copies.specs.Stages.{GoesOn, last_of}
use Rattle.published_copies.specs.History.{head_of}
use Rattle.published_copies.specs.Contents.{applied}
use Rattle.published_copies.specs.Copies.{book_of, KnowsBook}
use Rattle.published_copies.specs.Views.{content_after, handed, IsReady, IsStanding}
use Rattle.published_copies.proofs.Chains.{goes_self, last_added}

fold_push : {A B : Type 0} (f : A → B → A) (z : A) (xs : List B) (x : B) → fold f z (xs ++ x ∷ []) ≡ f (fold f z xs) x
fold_push f z [] x = refl
fold_push f z (y ∷ xs) x = fold_push f (f z y) xs x

-- two functions that agree fold alike
pub fold_same : {A B : Type 0} (f g : A → B → A) (z : A) (xs : List B) → ((a : A) (b : B) → f a b ≡ g a b) → fold f z xs ≡ fold g z xs
fold_same f g z [] same = refl
fold_same f g z (x ∷ xs) same = fold_same f g (f z x) xs same ∙ ap (λ a. fold g a xs) (same z x)

module _ {S E : Type 0} (content_of : S → Content E) where
  abbrev Operations : Type 0
  Operations = List (Operation E)

  content_more : (x : S) (pending after : Operations) (operation : Operation E) → after ≡ pending ++ operation ∷ [] → content_after content_of x after ≡ applied (content_after content_of x pending) operation
  content_more x pending after operation is = ap (content_after content_of x) is ∙ fold_push applied (content_of x) pending operation

  -- what was handed over, once one operation more is pending, or none
  pub handed_becomes : {A B : Type 0} (r : Result A B) (x y : S) (pending after : Operations) (operation : Operation E) (old new : Stage E)
      → y ≡ x → handed content_of x pending ≡ old → (applied (content_after content_of x pending) operation).stage ≡ new
      → MatchResult r (λ _. after ≡ pending ++ operation ∷ []) (λ _. after ≡ pending)
      → MatchResult r (λ _. handed content_of y after ≡ new) (λ _. handed content_of y after ≡ old)
  handed_becomes (Ok a) x y pending after operation old new same was is p =
      ap (λ (z : S). handed content_of z after) same ∙ (ap (λ (c : Content E). c.stage) (content_more x pending after operation p) ∙ is)
  handed_becomes (Err b) x y pending after operation old new same was is p = ap (λ (z : S). handed content_of z after) same ∙ (ap (handed content_of x) p ∙ was)

  -- what both have, what was handed over has
  pub handed_has : {A B : Type 0} (F : Stage E → Type 0) (r : Result A B) (x y : S) (pending after : Operations) (operation : Operation E)
      → y ≡ x → MatchResult r (λ _. after ≡ pending ++ operation ∷ []) (λ _. after ≡ pending)
      → F (handed content_of x pending) → F (applied (content_after content_of x pending) operation).stage → F (handed content_of y after)
  handed_has F (Ok a) x y pending after operation same is old new =
      subst F (sym (ap (λ (z : S). handed content_of z after) same ∙ ap (λ (c : Content E). c.stage) (content_more x pending after operation is))) new
  handed_has F (Err b) x y pending after operation same is old new = subst F (sym (ap (λ (z : S). handed content_of z after) same ∙ ap (handed content_of x) is)) old

  -- the publisher stands as before, with other operations pending
  pub standing_on : (x y : S) (pending after : Operations) (seat seat' : Option S) (head : Named) (mark : Mark E)
      → IsStanding content_of x pending seat head mark → y ≡ x → seat' ≡ seat → GoesOn (last_of mark.seen.log) (handed content_of y after) → IsStanding content_of y after seat' head mark
  standing_on x y pending after seat seat' head mark s same sits on = record {
    own = s.own;
    same = ap (book_of content_of) same ∙ s.same;
    knows = (s.knows.0, sits ∙ s.knows.1, s.knows.2);
    on = on;
  }

  -- the publisher stands once its first value is shown
  pub standing_first : (x first : S) (pending : Operations) (seat : Option S) (head : Named) (mark copy : Mark E) (s : Stage E)
      → content_of x ≡ content_of first → content_of first ≡ record { stage = s; mark = copy } → copy ≡ mark → pending ≡ [] → KnowsBook content_of seat (book_of content_of first)
      → head ≡ head_of mark.seen.book → last_of mark.seen.log ≡ s → IsStanding content_of x pending seat head mark
  standing_first x first pending seat head mark copy s shown made same none knows own last =
      let book : book_of content_of first ≡ mark.seen.book = ap (λ (c : Content E). c.mark.seen.book) made ∙ ap (λ (m : Mark E). m.seen.book) same in
      let all : handed content_of x pending ≡ s = ap (handed content_of x) none ∙ (ap (λ (c : Content E). c.stage) shown ∙ ap (λ (c : Content E). c.stage) made) in record {
        own = own;
        same = ap (λ (c : Content E). c.mark.seen.book) shown ∙ book;
        knows = (knows.0, knows.1, knows.2 ∙ book);
        on = subst (λ (t : Stage E). GoesOn t (handed content_of x pending)) (all ∙ sym last) (goes_self (handed content_of x pending));
      }

  -- equal parts stand alike
  pub standing_moved : (x y : S) (pending : Operations) (seat seat' : Option S) (head : Named) (mark mark' : Mark E)
      → IsStanding content_of x pending seat head mark → y ≡ x → seat' ≡ seat → mark' ≡ mark → IsStanding content_of y pending seat' head mark'
  standing_moved x y pending seat seat' head mark mark' s a b d =
      subst (λ (t : S × (Option S × Mark E)). IsStanding content_of t.0 pending t.1.0 head t.1.1) (λ i. (sym a i, (sym b i, sym d i))) s

  marked_standing : (x : S) (pending after : Operations) (seat : Option S) (head : Named) (mark next : Mark E)
      → IsStanding content_of x pending seat head mark → next.seen.book ≡ mark.seen.book → next.seen.log ≡ mark.seen.log ++ handed content_of x pending ∷ []
      → handed content_of x after ≡ handed content_of x pending → IsStanding content_of x after seat head next
  marked_standing x pending after seat head mark next s book log on =
      let last : last_of next.seen.log ≡ handed content_of x pending = ap last_of log ∙ last_added mark.seen.log (handed content_of x pending) in record {
        own = s.own ∙ ap head_of (sym book);
        same = s.same ∙ sym book;
        knows = (s.knows.0, s.knows.1, s.knows.2 ∙ sym book);
        on = subst (λ (t : Stage E). GoesOn t (handed content_of x after)) (on ∙ sym last) (goes_self (handed content_of x after));
      }

  pub standing_marked : {A B : Type 0} (r : Result A B) (x : S) (pending after : Operations) (seat : Option S) (head : Named) (mark next : Mark E)
      → IsStanding content_of x pending seat head mark → next.seen.book ≡ mark.seen.book → next.seen.log ≡ mark.seen.log ++ handed content_of x pending ∷ []
      → MatchResult r (λ _. after ≡ pending ++ Marked next ∷ []) (λ _. after ≡ pending)
      → IsStanding content_of x after seat head next × (handed content_of x after ≡ handed content_of x pending) × OnOk r (IsReady content_of x after)
  standing_marked (Ok a) x pending after seat head mark next s book log p =
      let more : content_after content_of x after ≡ record { stage = handed content_of x pending; mark = next } = content_more x pending after (Marked next) p in
      let on : handed content_of x after ≡ handed content_of x pending = ap (λ (c : Content E). c.stage) more in
      let last : last_of next.seen.log ≡ handed content_of x pending = ap last_of log ∙ last_added mark.seen.log (handed content_of x pending) in (
        marked_standing x pending after seat head mark next s book log on,
        on,
        (ap (λ (c : Content E). last_of c.mark.seen.log) more ∙ (last ∙ sym on), ap (λ (c : Content E). c.mark.seen.book) more ∙ (book ∙ sym s.same)),
      )
  standing_marked (Err b) x pending after seat head mark next s book log p =
      let on : handed content_of x after ≡ handed content_of x pending = ap (handed content_of x) p in
      (marked_standing x pending after seat head mark next s book log on, on, tt)

  -- What is shown: all that was pending, or what was shown before
  abbrev pub Shows : {A B : Type 0} → Result A B → S → Operations → Option S → S → Operations → Option S → Type 0
  Shows r x pending seat y after seat' = MatchResult r
      (λ _. (content_of y ≡ content_after content_of x pending) × (after ≡ []) × KnowsBook content_of seat' (book_of content_of y))
      (λ _. (y ≡ x) × (after ≡ pending) × (seat' ≡ seat))

  pub shown_handed : {A B : Type 0} (r : Result A B) (x y : S) (pending after : Operations) (seat seat' : Option S) → Shows r x pending seat y after seat' → handed content_of y after ≡ handed content_of x pending
  shown_handed (Ok a) x y pending after seat seat' p = ap (handed content_of y) p.1 ∙ ap (λ (c : Content E). c.stage) p.0
  shown_handed (Err b) x y pending after seat seat' p = ap (λ (z : S). handed content_of z after) p.0 ∙ ap (handed content_of x) p.1

  pub shown_standing : {A B : Type 0} (r : Result A B) (x y : S) (pending after : Operations) (seat seat' : Option S) (head : Named) (mark : Mark E)
      → Shows r x pending seat y after seat' → IsReady content_of x pending → IsStanding content_of x pending seat head mark → IsStanding content_of y after seat' head mark
  shown_standing {A} {B} (Ok a) x y pending after seat seat' head mark p ready s =
      let same : book_of content_of y ≡ mark.seen.book = ap (λ (c : Content E). c.mark.seen.book) p.0 ∙ (ready.1 ∙ s.same) in record {
        own = s.own;
        same = same;
        knows = (p.2.0, p.2.1, p.2.2 ∙ same);
        on = subst (λ (t : Stage E). GoesOn (last_of mark.seen.log) t) (sym (shown_handed {A = A} {B = B} (Ok a) x y pending after seat seat' p)) s.on;
      }
  shown_standing {A} {B} (Err b) x y pending after seat seat' head mark p ready s =
      standing_on x y pending after seat seat' head mark s p.0 p.2 (subst (λ (t : Stage E). GoesOn (last_of mark.seen.log) t) (sym (shown_handed {A = A} {B = B} (Err b) x y pending after seat seat' p)) s.on)

  pub shown_published : {A B : Type 0} (r : Result A B) (x y : S) (pending after : Operations) (seat seat' : Option S) (old new : Stage E)
      → Shows r x pending seat y after seat' → IsReady content_of x pending → last_of (content_of x).mark.seen.log ≡ old → handed content_of x pending ≡ new
      → MatchResult r (λ _. last_of (content_of y).mark.seen.log ≡ new) (λ _. last_of (content_of y).mark.seen.log ≡ old)
  shown_published (Ok a) x y pending after seat seat' old new p ready was is = ap (λ (c : Content E). last_of c.mark.seen.log) p.0 ∙ (ready.0 ∙ is)
  shown_published (Err b) x y pending after seat seat' old new p ready was is = ap (λ (z : S). last_of (content_of z).mark.seen.log) p.0 ∙ was
