use Rattle.packed.proofs.KeysIn.{key_first, key_next}
use Rattle.packed.proofs.bodies.StoredKeysKeySource.next_into.Goals as goal

pub unpack_key-self-requires : goal.unpack_key-self-requires
unpack_key-self-requires c = (key_first c.args.self.now.left c.args.self.now.bytes.now c.requires).1

pub returns : goal.returns
returns c = key_next c.args.self.now.left c.args.self.now.bytes.now c.unpack_key-self.new.place c.unpack_key-self.result.now c.requires c.unpack_key-self.ensures

pub overflow_sub-self : goal.overflow_sub-self
overflow_sub-self c = (key_first c.args.self.now.left c.args.self.now.bytes.now c.requires).0
