-- A folder for worked examples: the image of txid 4 with its digest, that of 7 without one, and the
-- digest of 9 without its image.
use Rattle.std.specs.Prelude.{Some, None, codes, if◌then◌else◌}
use Rattle.std.specs.Str.{bytes_eq}
use Rattle.base_disk.specs.Files.{Files}

abbrev pub folder : Files
folder name =
    if bytes_eq name (codes "fsimage_0000000000000000004") then Some (codes "four")
    else if bytes_eq name (codes "fsimage_0000000000000000004.md5") then Some (codes "digest")
    else if bytes_eq name (codes "fsimage_0000000000000000007") then Some (codes "seven")
    else if bytes_eq name (codes "fsimage_0000000000000000009.md5") then Some (codes "digest")
    else None
