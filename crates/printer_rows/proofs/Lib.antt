mod Printable
