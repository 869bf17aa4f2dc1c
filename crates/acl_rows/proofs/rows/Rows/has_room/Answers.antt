use Rattle.std.proofs.Common.{◌≡◌, length, rules}
use Rattle.acl_rows.proofs.Rooms.{room}
use Rattle.acl_rows.proofs.rows.Rows.has_room.Goals as goal

pub returns : goal.returns
returns c =
    let counted : c.len.result ≡ length c.self.inside.accounts.items = search rules in
    rw (← c.self.view_is) (room _ c.self.invariant c.len.result counted)
