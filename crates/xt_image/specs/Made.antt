-- The head of an image that is made here and not read from a file ('profile'; its bytes are those
-- of esptool's image format).
use Rattle.std.specs.Prelude.{replicate}
use Rattle.xt_image.specs.declared.image.Head.{Head}

-- flash mode 2, size byte 20, write-protect pin EE, greatest revision FFFF, and zeros elsewhere
abbrev pub made_head : Head
made_head = record {
  mode = 2;
  size_freq = 0x20;
  wp_pin = 0xEE;
  drive = replicate 3 0;
  min_rev_old = 0;
  min_rev = 0;
  max_rev = 0xFFFF;
  reserved = replicate 4 0;
}
