use Rattle.retro_base.proofs.Performed.{kept_seen_with}
use Rattle.retro_base.proofs.performed_rows.PerformedRows.append.Goals as goal

pub invariant_of-self-in_default : goal.invariant_of-self-in_default
invariant_of-self-in_default c =
    rw c.in_ok-push.ensures.ok (kept_seen_with _ _ _ _ _ _ c.self.view_is c.self.invariant c.requires.room c.requires.fresh c.requires.of_kind c.in_default.ensures.ok)
