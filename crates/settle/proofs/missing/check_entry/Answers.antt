use Rattle.std.proofs.Common.{inl, inr, refl, slice_get}
use Rattle.std.proofs.lemmas.Bool.{both_ways}
use Rattle.std.proofs.lemmas.Option.{slice_get_read}
use Rattle.settle.proofs.Entries.{taken_there}
use Rattle.settle.proofs.missing.check_entry.Goals as goal

pub returns : goal.returns
returns c limits =
    let transcript = c.index-transcript.result.now in
    let at = slice_get_read c.args.closed.now.transcripts.items _ c.args.place transcript refl c.requires c.index-transcript.ensures in
    let t = c.in-Some.taken in
    inr (inr (inl (record {
      place = c.args.place;
      transcript = transcript;
      its = (at, c.if-transcript-tenant.false);
      n = c.args.read;
      number = t.number;
      partition = t.partition;
      event_place = t.place;
      reply = t.reply;
      there = taken_there (slice_get transcript.entries.items c.args.read) t c.in-Some.ensures;
      none = λ is. both_ways c.has_event.result c.if-has_event.false (c.has_event.ensures limits is);
    })))
