-- The laws that others go by, with the file of each.
-- aligned_places (Aligned): a number below 1000, right-aligned in three places, place by place.
-- recorded (Laws): what a recording is that 1, 2, 10 and 11 do not refuse.
-- line_length, lines_length, strip_length (Laws): a line has line_bytes bytes, a strip of C channels C + 1 lines.
-- one_strip (Laws): recordings of C channels and k steps whose strips are equal are equal.
-- two_channels, ten_high, no_instants (Examples): strips as they are printed.
pub mod Aligned
pub mod Laws
pub mod Examples
