use Rattle.std.proofs.Common.{◌≡◌, ◌+◌, ◌^◌, ◌<◌, ◌∙◌, ℕ, ◌∷◌, ◌++◌, [], length, refl, arith}
use Rattle.entry_bytes.specs.Spelling.{bytes_of}
use Rattle.journal_bytes.proofs.Sizes.{size_more}
use Rattle.journal_bytes.specs.Files.{StandsFor, file_size}
use Rattle.acl_journal.proofs.Leaving.{IsEither, either_leaves, leaves_joined, list_leaves}
use Rattle.acl_journal.proofs.journal.Journal.append.Goals as goal

pub returns-in_err-set_gate-clause-any_moment : goal.returns-in_err-set_gate-clause-any_moment
returns-in_err-set_gate-clause-any_moment g c = λ start entries entry app.
    let short : length (bytes_of entry) < 2 ^ 32 = omega (arith, c.requires.small, app.prepared_from.size) in
    let holds = c.in_ok-write_behind.ensures.written start entries entry app.over.size app.over.holds app.follows (c.as_slice.ensures.value ∙ app.prepared_from.bytes short) in
    leaves_joined g.D.Disk.content g.D.Disk.moment g.D.Disk.pending c.args.self.now.disk c.write_behind.new.disk c.set_gate.new.disk (IsEither start entries entry) c.in_ok-write_behind.ensures.told
    (list_leaves g.D.Disk.content g.D.Disk.moment g.D.Disk.pending start entries entry c.args.self.now.disk c.write_behind.new.disk (c.in_ok-write_behind.ensures.any_moment start entries app.over.size app.over.holds))
    (either_leaves g.D.Disk.content g.D.Disk.moment g.D.Disk.pending start entries entry c.write_behind.new.disk c.set_gate.new.disk (c.in_err-set_gate.ensures.any_moment start entries entry app.over.size holds))

pub returns-clause-any_moment : goal.returns-clause-any_moment
returns-clause-any_moment g c = λ start entries entry app.
    let short : length (bytes_of entry) < 2 ^ 32 = omega (arith, c.requires.small, app.prepared_from.size) in
    let holds = c.in_ok-write_behind.ensures.written start entries entry app.over.size app.over.holds app.follows (c.as_slice.ensures.value ∙ app.prepared_from.bytes short) in
    leaves_joined g.D.Disk.content g.D.Disk.moment g.D.Disk.pending c.args.self.now.disk c.write_behind.new.disk c.set_gate.new.disk (IsEither start entries entry) c.in_ok-write_behind.ensures.told
    (list_leaves g.D.Disk.content g.D.Disk.moment g.D.Disk.pending start entries entry c.args.self.now.disk c.write_behind.new.disk (c.in_ok-write_behind.ensures.any_moment start entries app.over.size app.over.holds))
    (either_leaves g.D.Disk.content g.D.Disk.moment g.D.Disk.pending start entries entry c.write_behind.new.disk c.set_gate.new.disk (c.in_ok-set_gate.ensures.any_moment start entries entry app.over.size holds))

pub returns-clause-ok : goal.returns-clause-ok
returns-clause-ok g c = λ start entries entry app.
    let short : length (bytes_of entry) < 2 ^ 32 = omega (arith, c.requires.small, app.prepared_from.size) in
    let holds = c.in_ok-write_behind.ensures.written start entries entry app.over.size app.over.holds app.follows (c.as_slice.ensures.value ∙ app.prepared_from.bytes short) in
    record {
      settled = refl;
      size = omega (arith, c.len.ensures, app.over.size, app.prepared_from.size, size_more entries entry);
      holds = c.in_ok-set_gate.ensures.opened start entries entry app.over.size holds refl;
    }
