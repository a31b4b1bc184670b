use Rattle.server_sessions.proofs.KeptGiven.{kept_given}
use Rattle.server_sessions.proofs.kept_transcripts.KeptTranscripts.keep.Goals as goal

pub invariant_of-self : goal.invariant_of-self
invariant_of-self g c =
    let old = c.args.self.now in
    record {
      given = kept_given c.push.result old.seen c.args.left.1 c.seen_by_both.result old.transcripts.items c.push.new.self.items c.args.left.0
          c.seen_by_both.ensures.before c.seen_by_both.ensures.other c.push.ensures.items old.given c.requires;
    }
