use Rattle.std.proofs.Common.{refl}
use Rattle.base_words.specs.Padded.{padded}
use Rattle.hex.specs.Hex.{encode_with}
use Rattle.md5.specs.Md5.{block_words, rounds, compress, hash_after, digest_bytes, md5}
use Rattle.ns_store.specs.Names.{name_of}
use Rattle.ns_store.specs.Digests.{digest_line}
use Rattle.ns_store.proofs.worked_folders.digest_of_the_empty_file.Goals as goal

pub returns : goal.returns
unfolding padded name_of digest_line encode_with block_words rounds compress hash_after digest_bytes md5
returns c = refl
