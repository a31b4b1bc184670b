use Rattle.std.proofs.Common.{List, ap, refl, sym, ◌∙◌}
use Rattle.version_chain.specs.declared.version.Version.{Version}
use Rattle.version_chain.specs.Heads.{Heads}
use Rattle.version_chain.specs.Chain.{chain_versions, at_stamp}
use Rattle.prepare_commit.proofs.Chaining.{within, at, chains_set}
use Rattle.prepare_commit.proofs.versions.Versions.put.Goals as goal

pub put-requires : goal.put-requires
put-requires c =
    let block = c.args.block.now in
    let start : Heads = c.args.self.now.chains in
    record {
      chain = record { known = within block start c.args.chain c.requires.known; stands = c.requires.share.lies.stands };
      list = c.requires.share.lies.listed;
      room = record {
        share = c.requires.share.share;
        room = c.requires.room;
        missing = ap (λ (vs : List Version). at_stamp vs c.args.version.now.prepared.stamp) (sym (at block start c.args.chain c.requires.known)) ∙ c.requires.missing;
      };
    }

pub returns : goal.returns
returns c =
    let put = c.put.ensures in
    let block = c.args.block.now in
    let start : Heads = c.args.self.now.chains in
    let left = chain_versions c.put.new.block c.put.new.self c.args.chain in
    record {
      put = (
        left,
        rw (at block start c.args.chain c.requires.known) put.added.inserted,
        chains_set block c.put.new.block start c.put.new.self c.args.chain left put.changed.own.shape.long put.changed.others (within block start c.args.chain c.requires.known) refl,
      );
      used = put.added.used;
      changed = record { lies = record { stands = put.changed.stands; listed = put.list }; own = put.changed.own };
    }
