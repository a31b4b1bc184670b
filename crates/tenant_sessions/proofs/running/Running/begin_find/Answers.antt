use Rattle.std.proofs.Common.{sym}
use Rattle.tenant_sessions.proofs.Starting.{find_starts}
use Rattle.tenant_sessions.proofs.running.Running.begin_find.Goals as goal

pub returns : goal.returns
returns c = λ setup parts.
    let starts = find_starts setup c.args.parts parts c.args.tag c.reset.new.self c.self.inside.reader c.search.new.self c.requires (c.reset.ensures setup c.self.inside.reader parts) c.search.ensures in
    record { stands = record { parts = sym parts; runs = starts.0 }; calls = starts.1 }
